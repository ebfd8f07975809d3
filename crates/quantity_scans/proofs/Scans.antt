-- `is_given` holds exactly where a scan gives such a text.
use Prim.Native.Nat.{ℕ, suc, ◌+◌, ◌≤◌}
use Prim.Native.Char.{code}
use mathlib.Core.Path.{◌≡◌, refl, subst}
use mathlib.Core.Bool.{true, false, false≢true}
use mathlib.Core.List.{List, ◌∷◌}
use mathlib.Core.Logic.{⊎_elim}
use native.Mathlib.Omega.{arith}
use native.Mathlib.Nat.{add-zero}
use lib.Dec.{leb, eqb}
use lib.ListN.{length, take, get_or}
use lib.Seq.{take-length}
use borrow.Author.Tests.{eqb-true, leb-true}
use Rattle.basics.proofs.Choice.{either, and_split}
use Rattle.utf8.specs.Chars.{chars}
use Rattle.position.specs.Place.{max_position}
use Rattle.numbers.specs.declared.Spelling.{Spelling}
use Rattle.numbers.specs.declared.Spelling.TheVariants.{AsRead, LowerPrefix, OctalPrefix, LowerExponent}
use Rattle.numbers.specs.Spelling.{is_as_read, number_text}
use Rattle.numbers.specs.Number.{starts_number, number}
use Rattle.lexer.proofs.Ways.{number_there}
use Rattle.quantity_query.specs.Given.{is_real, is_all, starts_octal, most_bytes, is_given}
use Rattle.quantity_scans.specs.Scans.{ScanGives, GivenByScan}
use Rattle.quantity_scans.proofs.Texts.{ReadAgain}
use Rattle.quantity_scans.proofs.Scanned.{real_is, scan_given}
use Rattle.quantity_scans.proofs.Sources.{number_scanned}
use Rattle.quantity_scans.proofs.OctalSource.{octal_start, octal_scanned}

-- ---- what `is_given` says
as_read : (sp : Spelling) → is_as_read sp ≡ true → sp ≡ AsRead
as_read AsRead e = refl
as_read LowerPrefix e = absurd (false≢true e)
as_read OctalPrefix e = absurd (false≢true e)
as_read LowerExponent e = absurd (false≢true e)

module _ (kind : ℕ) (t : List ℕ) (g : is_given kind t ≡ true) where
  given_real : is_real kind ≡ true
  unfolding is_given
  given_real = (and_split (is_real kind) _ g).0

  given_read : ReadAgain kind max_position t
  unfolding is_given
  given_read =
      let x = number (chars t) in
      let b = and_split (starts_number (get_or t 0 0) (get_or t 1 0)) _ (and_split (is_real kind) _ g).1 in
      let c = and_split (is_all kind (length t) x) (leb (length t) (most_bytes t)) b.1 in
      let d = and_split (eqb x.kind kind) _ c.0 in
      let e = and_split (eqb x.len (length t)) (is_as_read x.spelling) d.1 in
      record {
        starts = b.0;
        kind_is = eqb-true x.kind kind d.0;
        all = eqb-true x.len (length t) e.0;
        plain = as_read x.spelling e.1;
        size = leb-true (length t) (most_bytes t) c.1;
      }

  -- ---- a scan of the text itself
  own_text : number_text (number (chars t)).spelling (take (number (chars t)).len t) ≡ t
  unfolding number_text
  own_text = rw (given_read.plain, given_read.all, take-length t)

  own_scanned : length t ≤ max_position → ScanGives kind t
  own_scanned h = subst (λ k. ScanGives k t) given_read.kind_is (number_scanned t t (number_there t 0 given_read.starts) own_text h)

-- ---- of an octal text, a scan of the source without the o
octal_given : (kind : ℕ) (rest : List ℕ) → is_given kind (code "0" ∷ code "o" ∷ rest) ≡ true → ScanGives kind (code "0" ∷ code "o" ∷ rest)
octal_given kind rest g =
    let t = code "0" ∷ code "o" ∷ rest in
    let a = given_read kind t g in
    octal_scanned kind max_position rest (real_is kind (given_real kind t g)) a (within max_position a.size)
  where
    within : (most : ℕ) → suc (suc (length rest)) ≤ most + 1 → suc (length rest) ≤ most
    within most h = omega arith

given_scanned : (kind : ℕ) (t : List ℕ) → is_given kind t ≡ true → ScanGives kind t
given_scanned kind t g =
    ⊎_elim (λ (o : starts_octal t ≡ true). let s = octal_start t o in rw s.1 (octal_given kind s.0 (rw s.1 at g)))
    (λ (o : starts_octal t ≡ false). own_scanned kind t g (rw (o, add-zero max_position) at (given_read kind t g).size)) (either (starts_octal t))

pub given_by_scan : GivenByScan
given_by_scan = record { real = given_real; scanned = given_scanned; is_given_lem = scan_given }
