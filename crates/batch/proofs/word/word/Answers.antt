-- `word::word` meets its contract: a run that ends within eight bytes is the word, and the tables of keywords tell its kind.
use Prim.Native.Nat.{◌<◌}
use mathlib.Core.Path.{◌≡◌, sym, ap, ◌∙◌}
use native.Mathlib.Omega.{arith}
use lib.ListN.{take, drop, length-drop}
use Rattle.utf8.specs.Chars.{chars}
use Rattle.swar.specs.Number.{number_of}
use Rattle.swar.proofs.Numbers.{bytes_drop}
use Rattle.words.specs.Word.{word_len}
use Rattle.words.specs.declared.Near.{Near}
use Rattle.words.proofs.Marks.{run_room}
use Rattle.batch.proofs.Giving.{gives_short, kind_told}
use Rattle.batch.proofs.word.word.Goals as goal

pub returns : goal.returns
returns c =
    let a = c.args.start in
    let run = c.near_run-run in
    let e = ap (λ (r : Near). r.len) run.ensures in
    let whole : run.result.len ≡ word_len (chars (drop a.at a.src.now)) = omega (arith, e, c.if-n-eq8.false) in
    let short : run.result.len < 8 = omega (arith, e, c.if-n-eq8.false) in
    let told =
    kind_told (drop a.at a.src.now) run.result.number run.result.len c.word_kind-kind.result
    (bytes_drop a.at a.src.now a.bytes) (omega (arith, short))
    (omega (arith, whole, run_room a.src.now a.at, length-drop a.at a.src.now))
    (ap (λ (r : Near). r.number) run.ensures ∙ ap (λ m. number_of (take m (drop a.at a.src.now))) (sym e))
    c.word_kind-kind.ensures in
    gives_short a.src.now a.at a.safe a.position (omega (arith, a.early, a.inside)) c.requires c.word_kind-kind.result run.result.len
    whole told (omega (arith, short, a.early)) c.give_word.ensures
