-- `writing::chars::write_encoded` meets its contract.
use Rattle.writing.proofs.Areas.{writes_end}
use Rattle.writing.proofs.Texts.{text_encoded}
use Rattle.writing.proofs.chars.write_encoded.Goals as goal

pub returns : goal.returns
returns c =
    let a = c.args in
    writes_end a.area.now a.to _ _ (text_encoded _) c.write_chars.ensures
