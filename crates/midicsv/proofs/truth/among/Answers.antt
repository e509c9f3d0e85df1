use Rattle.std.proofs.Common.{◌≡◌, ℕ, ◌+◌, ◌*◌, ◌≤◌, true, false, length, take, drop, rules, arith}
use Rattle.std.proofs.lemmas.Grind.{common_steps}
use Rattle.std.specs.Iterator.Runs.{IsChunksExactRun, AllItems}
use Rattle.midicsv.specs.Names.{same_name}
use Rattle.midicsv.proofs.TruthLaws.{among_told, chunks_lack}
use Rattle.midicsv.proofs.truth.among.Goals as goal

pub returns : goal.returns
returns c =
    let d = c.args.word.now in
    let l = c.args.words.now in
    let n = length d in
    let p = c.any.ensures.runs.0 in
    let chunks : IsChunksExactRun p n l = grind (arith, common_steps) in
    let whole : c.any.result ≡ false → p.whole ≡ true = λ e. grind (arith, common_steps) in
    let none : c.any.result ≡ false → AllItems p (λ x. same_name d x.now ≡ false) = λ e. grind (arith, common_steps) in
    let found : c.any.result ≡ true → (k : ℕ) × ((k * n + n ≤ length l) × (same_name d (take n (drop (k * n) l)) ≡ true)) = λ e. search rules in
    among_told c.any.result d l c.requires found (λ e. chunks_lack p d l chunks (whole e) (none e))
