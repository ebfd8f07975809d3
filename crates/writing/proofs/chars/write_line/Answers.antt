-- `writing::chars::write_line` meets its contract.
use Rattle.writing.proofs.Areas.{writes_last}
use Rattle.writing.proofs.Texts.{text_clean}
use Rattle.writing.proofs.chars.write_line.Goals as goal

pub returns : goal.returns
returns c =
    let a = c.args in
    writes_last a.area.now a.to _ c.write_chars-n.result 10 _ _ (text_clean _) c.write_chars-n.ensures c.put.ensures
