use Rattle.midicsv.specs.Code.Form.{form_of}
use Rattle.midicsv_write.proofs.to_text.file_to_sheet.Goals as goal

pub returns : goal.returns
unfolding form_of
returns c = record { fact_1 = c.put_file.ensures.fact_1; fact_2 = c.put_file.ensures.fact_2 }
