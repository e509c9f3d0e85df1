use Rattle.event.specs.Meta.{kind_of}
use Rattle.event.specs.Reader.{length_ok}
use Rattle.event.proofs.RowLaws.{free_length}
use Rattle.event.proofs.meta.length_ok.Goals as goal

pub returns-in-0 : goal.returns-in-0
unfolding kind_of length_ok
returns-in-0 c = rw c.in-0.is

pub returns-in-32 : goal.returns-in-32
unfolding kind_of length_ok
returns-in-32 c = rw c.in-32.is

pub returns-in-33 : goal.returns-in-33
unfolding kind_of length_ok
returns-in-33 c = rw c.in-33.is

pub returns-in-47 : goal.returns-in-47
unfolding kind_of length_ok
returns-in-47 c = rw c.in-47.is

pub returns-in-81 : goal.returns-in-81
unfolding kind_of length_ok
returns-in-81 c = rw c.in-81.is

pub returns-in-84 : goal.returns-in-84
unfolding kind_of length_ok
returns-in-84 c = rw c.in-84.is

pub returns-in-88 : goal.returns-in-88
unfolding kind_of length_ok
returns-in-88 c = rw c.in-88.is

pub returns-in-89 : goal.returns-in-89
unfolding kind_of length_ok
returns-in-89 c = rw c.in-89.is

pub returns-in_default : goal.returns-in_default
unfolding kind_of length_ok
returns-in_default c =
    let r = c.in_default.in_default-own.rest in
    free_length c.args.t c.args.n r.0.0.0.0.0.0.0.1
    (record {
      not_prefix = r.0.0.0.0.0.0.1;
      not_port = r.0.0.0.0.0.1;
      not_end = r.0.0.0.0.1;
      not_tempo = r.0.0.0.1;
      not_offset = r.0.0.1;
      not_time = r.0.1;
      not_key = r.1;
    })
