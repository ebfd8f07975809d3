-- `writing::chars::write_clean` meets its contract.
use Rattle.writing.proofs.Areas.{writes_end}
use Rattle.writing.proofs.Texts.{text_clean}
use Rattle.writing.proofs.chars.write_clean.Goals as goal

pub returns : goal.returns
returns c =
    let a = c.args in
    writes_end a.area.now a.to _ _ (text_clean _) c.write_chars.ensures
