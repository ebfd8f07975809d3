-- What the first byte tells, and that an operator, a delimiter or a line feed is what the lexer reads.
use Prim.Native.Nat.{ℕ, ◌+◌, ◌≤◌, ◌<◌}
use Prim.Native.Char.{code}
use mathlib.Core.Path.{◌≡◌, refl, sym, ap, ◌∙◌}
use mathlib.Core.Bool.{Bool, true, false, not, ◌||◌, ◌&&◌, true≢false, false≢true}
use mathlib.Core.List.{List, [], ◌∷◌}
use mathlib.Core.Logic.{◌≢◌, ⊎_elim}
use native.Mathlib.Omega.{arith}
use native.Mathlib.Decide.{dec_lt}
use lib.Dec.{T, eqb, ltb, leb}
use lib.ListN.{length, get_or, drop}
use borrow.Author.Tests.{ne_eqb, eqb-true, leb-true, ltb-true, eq-eqb, not-true}
use Rattle.basics.specs.Same.{same}
use Rattle.basics.proofs.Choice.{and_split, none_of, below_it, above_it, true_of}
use Rattle.basics.proofs.Every.{below, every_below}
use Rattle.basics.proofs.Lists.{reach, same_true}
use Rattle.utf8.specs.declared.Char.{Char}
use Rattle.utf8.specs.Chars.{chars}
use Rattle.digits.specs.Digit.{is_decimal}
use Rattle.kinds.specs.Kinds.{ILLEGAL, EOF, COMMENT, IDENT, INT, STRING, ADD, LPAREN, PERIOD}
use Rattle.kinds.specs.declared.kind.Kind.{Kind}
use Rattle.kinds.specs.declared.kind.Kind.TheVariants.{Period}
use Rattle.kinds.specs.Number.{kind_number}
use Rattle.kinds.specs.Table.{Class, Row, operators, specials, table, row_of, is_operator, sets_mark}
use Rattle.kinds.specs.Table as kinds
use Rattle.words.specs.Word.{is_letter}
use Rattle.operators.specs.declared.Operator.{Operator}
use Rattle.operators.specs.Longest.{OperatorSaid, operator_said, begins, op, operator_of}
use Rattle.operators.proofs.Bounds.{spells, operator_proper, operator_short, operator_least}
use Rattle.operators.proofs.Leading.{among}
use Rattle.operators.proofs.Rows.{row, one_is, period_is}
use Rattle.lexer.specs.Lex.{lex_operator, lex_by, lex_token}
use Rattle.lexer.specs.Made.{bare_as, inserted_at}
use Rattle.lexer.specs.Placed.{placed, said}
use Rattle.lexer.proofs.Said.{semicolon_said}
use Rattle.lexer.proofs.Tokens.{operator_fits, operator_token}
use Rattle.lexer.proofs.Opened.{open_chars}
use Rattle.lexer.proofs.Dispatch.{by_byte, is_by, feed_is, operator_is}
use Rattle.batch.specs.declared.first.First.{First}
use Rattle.batch.specs.declared.first.First.TheVariants.{Letter, Delimiter, Point, LineFeed, Operator as Operates, Digit, Quote, Other}
use Rattle.batch.specs.KindOf.{all_kinds}
use Rattle.batch.specs.Simple.{rows_from, first_of}

-- ---- what a byte tells, by computing each
-- each class by a number: a delimiter by that of its kind, another by that of a kind of it
abbrev pub first_number : First → ℕ
first_number Letter = IDENT
first_number (Delimiter kind) = kind_number kind
first_number Point = PERIOD
first_number LineFeed = COMMENT
first_number Operates = ADD
first_number Digit = INT
first_number Quote = STRING
first_number Other = ILLEGAL

abbrev pub first_kind : ℕ → ℕ
first_kind b = first_number (first_of b)

-- what only bytes tell of which a test holds
only : (kind : ℕ) (P : ℕ → Bool) → T (below (λ x. not (eqb (first_kind x) kind) || P x) 256) → (b : ℕ) → b < 256 → first_kind b ≡ kind → P b ≡ true
only kind P all b h e =
    rw (eq-eqb (first_kind b) kind e) at (true_of (not (eqb (first_kind b) kind) || P b) (every_below (λ x. not (eqb (first_kind x) kind) || P x) 256 all b h))

pub letter_first : (b : ℕ) → b < 256 → first_of b ≡ Letter → is_letter b ≡ true
unfolding first_of rows_from operators is_letter all_kinds
letter_first b h e = only IDENT is_letter tt b h (ap first_number e)

-- a rule before that of the operators may read what starts with the byte
abbrev ruled : ℕ → Bool
ruled b =
    is_letter b || (is_decimal b || (eqb b (code "\n") || (eqb b (code "\"") || (eqb b (code "'") || (eqb b (code "`") || (eqb b (code ".") || eqb b (code "/")))))))

unruled : (b : ℕ) → ruled b ≡ false → (mark : Bool) (r : List Char) → lex_by mark b r ≡ lex_operator mark r
unfolding lex_by
unruled b n mark r =
    let letter = none_of (is_letter b) _ n in
    let digit = none_of (is_decimal b) _ letter.1 in
    let feed = none_of (eqb b (code "\n")) _ digit.1 in
    let string = none_of (eqb b (code "\"")) _ feed.1 in
    let char = none_of (eqb b (code "'")) _ string.1 in
    let raw = none_of (eqb b (code "`")) _ char.1 in
    let last = none_of (eqb b (code ".")) _ raw.1 in
    rw (letter.0, digit.0, feed.0, string.0, char.0, raw.0, last.0, last.1)

-- the byte is an operator by itself, and no other rule reads it
abbrev pub starts_operator : ℕ → Bool
starts_operator b = ltb 0 b && (ltb b 0x80 && (spells (b ∷ []) operators && not (ruled b)))

pub operator_first : (b : ℕ) → b < 256 → first_of b ≡ Operates → starts_operator b ≡ true
unfolding first_of rows_from operators is_letter all_kinds same
operator_first b h e = only ADD starts_operator tt b h (ap first_number e)

pub digit_first : (b : ℕ) → b < 256 → first_of b ≡ Digit → is_decimal b ≡ true
unfolding first_of rows_from operators is_letter all_kinds
digit_first b h e = only INT is_decimal tt b h (ap first_number e)

pub quote_first : (b : ℕ) → b < 256 → first_of b ≡ Quote → b ≡ 34
unfolding first_of rows_from operators is_letter all_kinds
quote_first b h e = eqb-true b 34 (only STRING (λ x. eqb x 34) tt b h (ap first_number e))

pub point_first : (b : ℕ) → b < 256 → first_of b ≡ Point → b ≡ 46
unfolding first_of rows_from operators is_letter all_kinds
point_first b h e = eqb-true b 46 (only PERIOD (λ x. eqb x 46) tt b h (ap first_number e))

pub feed_first : (b : ℕ) → b < 256 → first_of b ≡ LineFeed → b ≡ 10
unfolding first_of rows_from operators is_letter all_kinds
feed_first b h e = eqb-true b 10 (only COMMENT (λ x. eqb x 10) tt b h (ap first_number e))

-- the class of the operators
abbrev is_of : Class → Bool
is_of c = elim c [ kinds.Literal ↦ false | kinds.Operator ↦ true | kinds.Keyword ↦ false | kinds.Other ↦ false ]

is_of_lem : (c : Class) → is_of c ≡ true → c ≡ kinds.Operator
is_of_lem c = elim c as (λ k. is_of k ≡ true → k ≡ kinds.Operator) [ kinds.Literal ↦ λ t. absurd (false≢true t) | kinds.Operator ↦ λ t. refl | kinds.Keyword ↦ λ t. absurd (false≢true t) | kinds.Other ↦ λ t. absurd (false≢true t) ]

-- the one row of these is an operator of a kind, of one byte
abbrev single : ℕ → ℕ → List Row → Bool
single kind b [] = false
single kind b (x ∷ []) = eqb x.kind kind && (is_of x.class && same x.name (b ∷ []))
single kind b (x ∷ y ∷ rows) = false

single_is : (kind b : ℕ) (rows : List Row) → single kind b rows ≡ true → rows ≡ row kind (b ∷ []) ∷ []
single_is kind b [] t = absurd (false≢true t)
single_is kind b (x ∷ []) t =
    let q = and_split (eqb x.kind kind) _ t in
    let u = and_split (is_of x.class) _ q.1 in
    λ i. record { kind = eqb-true x.kind kind q.0 i; class = is_of_lem x.class u.0 i; name = same_true x.name (b ∷ []) u.1 i } ∷ []
single_is kind b (x ∷ y ∷ rows) t = absurd (false≢true t)

-- the byte is the whole of the one operator that starts with it, and no other rule reads it
abbrev delimits : ℕ → Bool
delimits b = ltb 0 b && (not (ruled b) && single (first_kind b) b (among b operators))

abbrev is_delimiter : First → Bool
is_delimiter Letter = false
is_delimiter (Delimiter kind) = true
is_delimiter Point = false
is_delimiter LineFeed = false
is_delimiter Operates = false
is_delimiter Digit = false
is_delimiter Quote = false
is_delimiter Other = false

-- a byte that tells a delimiter is such a byte, and its kind one from LPAREN on
delimiter_first : (b : ℕ) → b < 256 → is_delimiter (first_of b) ≡ true → delimits b && leb LPAREN (first_kind b) ≡ true
unfolding first_of rows_from operators is_letter all_kinds same
delimiter_first b h e =
    rw e at (true_of (not (is_delimiter (first_of b)) || (delimits b && leb LPAREN (first_kind b)))
    (every_below (λ x. not (is_delimiter (first_of x)) || (delimits x && leb LPAREN (first_kind x))) 256 tt b h))

pub delimiter_kind : (b : ℕ) → b < 256 → (kind : Kind) → first_of b ≡ Delimiter kind → LPAREN ≤ kind_number kind
delimiter_kind b h kind e = rw (ap first_number e) at (leb-true LPAREN (first_kind b) (and_split (delimits b) _ (delimiter_first b h (ap is_delimiter e))).1)

-- a letter is past the digits and the point
pub letter_past : (b : ℕ) → is_letter b ≡ true → 65 ≤ b
unfolding is_letter
letter_past b t =
    elim (dec_lt b 65) [
      | yes h ↦ absurd (true≢false (sym t ∙ rw (below_it 97 b 122 (omega arith), below_it 65 b 90 (omega arith), ne_eqb b 95 (λ e. omega arith))))
      | no h ↦ omega arith
    ]

-- ---- the token at a place whose byte is a delimiter
module _ (s : List ℕ) (at : ℕ) (mark : Bool) where
  operator_read : (x : ℕ) (kind : Kind) → 0 < x → get_or s at 0 ≡ x → op (kind_number kind) 1 ≡ operator_of (chars (drop at s)) → kind_number kind ≢ ILLEGAL
      → lex_by mark x (chars (drop at s)) ≡ lex_operator mark (chars (drop at s))
      → said s at (bare_as kind (at + 1) 1 (sets_mark (kind_number kind))) ≡ placed s at (lex_token mark (chars (drop at s)))
  operator_read x kind some e is n by =
      operator_token s at mark (record { kind = kind; len = 1 }) is n ∙ ap (placed s at) (sym (is_by mark s at (reach s at (omega (arith, e, some))) x e ∙ by))

  -- one that begins no other
  alone : (x : ℕ) (kind : Kind) → 0 < x → among x operators ≡ row (kind_number kind) (x ∷ []) ∷ [] → kind_number kind ≢ ILLEGAL
      → lex_by mark x (chars (drop at s)) ≡ lex_operator mark (chars (drop at s))
      → get_or s at 0 ≡ x → said s at (bare_as kind (at + 1) 1 (sets_mark (kind_number kind))) ≡ placed s at (lex_token mark (chars (drop at s)))
  alone x kind some rows n by e = operator_read x kind some e (one_is s at x e (kind_number kind) rows) n by

  -- a point before a letter
  pub point_read : get_or s at 0 ≡ 46 → is_letter (get_or s (at + 1) 0) ≡ true
      → said s at (bare_as Period (at + 1) 1 false) ≡ placed s at (lex_token mark (chars (drop at s)))
  unfolding lex_by is_letter
  point_read e l =
      let p = letter_past (get_or s (at + 1) 0) l in
      let no-point = ne_eqb (get_or s (at + 1) 0) 46 (λ z. omega (arith, p, z)) in
      let no_digit = above_it 48 (get_or s (at + 1) 0) 57 (omega (arith, p)) (omega (arith, p)) in
      operator_read 46 Period (omega arith) e (rw no-point at (period_is s at e)) (λ z. omega (arith, z))
      (sym (rw e at (operator_is mark s at (reach s at (omega (arith, e))) (get_or s (at + 1) 0) refl (rw (e, no_digit)) (rw e) (rw (e, no-point)))))

  -- the delimiter that a byte tells
  pub delimiter_read : (b : ℕ) → b < 256 → (kind : Kind) → first_of b ≡ Delimiter kind → get_or s at 0 ≡ b
      → said s at (bare_as kind (at + 1) 1 (sets_mark (kind_number kind))) ≡ placed s at (lex_token mark (chars (drop at s)))
  delimiter_read b h kind is e =
      let high = delimiter_kind b h kind is in
      let q = and_split (ltb 0 b) _ (and_split (delimits b) _ (delimiter_first b h (ap is_delimiter is))).0 in
      let u = and_split (not (ruled b)) _ q.1 in
      alone b kind (ltb-true 0 b q.0) (rw (ap first_number is) at (single_is (first_kind b) b (among b operators) u.1)) (λ z. omega (arith, z, high))
      (unruled b (not-true (ruled b) u.0) mark (chars (drop at s))) e

  -- the semicolon before a line feed
  pub feed_read : get_or s at 0 ≡ 10 → said s at (inserted_at at) ≡ placed s at (lex_token mark (chars (drop at s)))
  feed_read e = semicolon_said s at ∙ ap (placed s at) (feed_is mark s at (reach s at (omega (arith, e))) e)

-- ---- the operator at a place
module _ (s : List ℕ) (at : ℕ) (o : Operator) (is : operator_said o ≡ operator_of (chars (drop at s))) (h : starts_operator (get_or s at 0) ≡ true) where
  -- the byte there
  first_byte : (0 < get_or s at 0) × (get_or s at 0 < 0x80) × (spells (get_or s at 0 ∷ []) operators ≡ true) × (ruled (get_or s at 0) ≡ false)
  first_byte =
      let b = get_or s at 0 in
      let t = and_split (ltb 0 b) _ h in
      let u = and_split (ltb b 0x80) _ t.1 in
      let v = and_split (spells (b ∷ []) operators) _ u.1 in
      (ltb-true 0 b t.0, ltb-true b 0x80 u.0, v.0, not-true (ruled b) v.1)

  begins_there : begins (get_or s at 0 ∷ []) (chars (drop at s)) ≡ true
  unfolding begins
  begins_there = rw (open_chars s at (get_or s at 0) first_byte.0 first_byte.1 refl, eq-eqb (get_or s at 0) (get_or s at 0) refl)

  -- no kind of another class
  other_kind : (k : ℕ) → is_operator k ≡ false → kind_number o.kind ≢ k
  other_kind k n e =
      let r = chars (drop at s) in
      let long = operator_least (get_or s at 0 ∷ []) r begins_there first_byte.2 in
      let t : is_operator (kind_number o.kind) ≡ true = rw (ap (λ (x : OperatorSaid). x.kind) is) (⊎_elim (λ z. absurd (omega (arith, z, long))) (λ y. y) (operator_proper r)) in
      true≢false (sym t ∙ ap is_operator e ∙ n)

  pub operator_kind : (kind_number o.kind ≢ ILLEGAL) × (kind_number o.kind ≢ EOF) × (kind_number o.kind ≢ STRING)
  unfolding row_of table specials
  operator_kind = (other_kind ILLEGAL refl, other_kind EOF refl, other_kind STRING refl)

  pub operator_within : at + o.len ≤ length s
  operator_within = operator_fits s at true o is (omega (arith, reach s at first_byte.0))

  pub operator_three : o.len ≤ 3
  operator_three = omega (arith, ap (λ (x : OperatorSaid). x.len) is, operator_short (chars (drop at s)))

  pub operator_reads : (mark : Bool)
      → said s at (bare_as o.kind (at + o.len) o.len (sets_mark (kind_number o.kind))) ≡ placed s at (lex_token mark (chars (drop at s)))
  operator_reads mark =
      operator_token s at mark o is operator_kind.0
      ∙ ap (placed s at) (sym (by_byte mark s at (reach s at first_byte.0) ∙ unruled (get_or s at 0) first_byte.3 mark (chars (drop at s))))
