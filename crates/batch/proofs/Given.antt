-- Scans of which n have given their tokens: what the scans that are left add to what is written, at each way to stop and at one token more.
use Prim.Native.Nat.{ℕ, suc, ◌+◌, ◌-◌, ◌*◌, ◌≤◌, ◌<◌}
use mathlib.Core.Path.{◌≡◌, refl, sym, ap, ◌∙◌}
use mathlib.Core.Bool.{true, false, cond}
use mathlib.Core.List.{List}
use mathlib.Core.Logic.{⊎_elim}
use native.Mathlib.Nat.{add-zero}
use native.Mathlib.Omega.{arith}
use lib.Dec.{eqb, ltb}
use lib.ListN.{length}
use lib.Seq.{sets}
use borrow.Author.Tests.{lt-ltb, le-ltb, eq-eqb, ne_eqb, eqb-false}
use Rattle.basics.proofs.Choice.{cond_ind, either}
use Rattle.refusal.specs.Refusals.{DOES_NOT_FIT}
use Rattle.state.specs.declared.state.State.{State}
use Rattle.state.specs.Fits.{fits}
use Rattle.parts.specs.declared.token.Token.{Token}
use Rattle.scanner.specs.Scan.{ScanLeft, scan_of}
use Rattle.parts.specs.Layout.{token_width, token_numbers}
use Rattle.batch.specs.Many.{ManyRun, ManyLeft, is_last, stopped, token_before, many_of, tokens_numbers, token_room, left_after, many_refused, scan_many_of}
use Rattle.scanner.proofs.Scans.{scan_unfit, scan_kept}

-- one token before the others is one more that they come after
left_next : (n : ℕ) (tokens : List ℕ) (t : Token) (r : ManyRun) → left_after n tokens (token_before t r) ≡ left_after (n + 1) (sets tokens (n * token_width) (token_numbers t)) r
unfolding tokens_numbers
left_next n tokens t r =
    let w = n * token_width in
    let i : suc (suc (suc (suc (suc (suc (suc (suc (suc (suc w))))))))) ≡ (n + 1) * token_width = omega arith in
    let j : n + suc (length r.tokens) ≡ n + 1 + length r.tokens = omega arith in
    λ k. record {
      refusal = 0;
      state = r.state;
      table = r.table;
      list = r.list;
      area = r.area;
      tokens = sets (sets tokens w (token_numbers t)) (i k) (tokens_numbers r.tokens);
      count = j k;
    }

-- below the room a whole token fits
pub token_fits : (n room len : ℕ) → n < room → room * token_width ≤ len → n * token_width + token_width ≤ len
token_fits n room len h k = omega arith

-- n tokens were given of those that there is room for
module _ (room n : ℕ) (src : List ℕ) (s : State) (table list area tokens : List ℕ) where
  pub left_none : room ≤ n → left_after n tokens (many_of (room - n) src s table list area) ≡ left_after n tokens (stopped s table list area)
  unfolding many_of
  left_none h = let z : room - n ≡ 0 = omega arith in rw z

  module _ (h : n < room) {a : ScanLeft} (e : a ≡ scan_of src s table list area) where
    more : room - n ≡ suc (room - (n + 1))
    more = omega arith

    -- what a refused scan leaves is what it was given
    pub left_refused : (a.answer.refusal ≡ 0 → ⊥)
        → left_after n tokens (many_of (room - n) src s table list area) ≡ left_after n tokens (stopped a.answer.state a.table a.list a.area)
    unfolding many_of
    left_refused f =
        let kept = e ∙ scan_kept src s table list area (rw e at f) in
        rw (more, ← e, ne_eqb _ _ f) (ap (λ (b : ScanLeft). left_after n tokens (stopped b.answer.state b.table b.list b.area)) (sym kept))

    pub left_last : a.answer.refusal ≡ 0 → is_last a.answer.token ≡ true
        → left_after n tokens (many_of (room - n) src s table list area)
        ≡ left_after (n + 1) (sets tokens (n * token_width) (token_numbers a.answer.token)) (stopped a.answer.state a.table a.list a.area)
    unfolding many_of
    left_last z f = rw (more, ← e, eq-eqb _ _ z, f) (left_next n tokens _ _)

    pub left_more : a.answer.refusal ≡ 0 → is_last a.answer.token ≡ false
        → left_after n tokens (many_of (room - n) src s table list area)
        ≡ left_after (n + 1) (sets tokens (n * token_width) (token_numbers a.answer.token)) (many_of (room - (n + 1)) src a.answer.state a.table a.list a.area)
    unfolding many_of
    left_more z f = rw (more, ← e, eq-eqb _ _ z, f) (left_next n tokens _ _)

-- ---- the whole call
module _ (src : List ℕ) (s : State) (table list area tokens : List ℕ) where
  pub no_room : length tokens < token_width → many_refused DOES_NOT_FIT s table list area tokens ≡ scan_many_of src s table list area tokens
  unfolding scan_many_of
  no_room h = rw (lt-ltb _ _ h)

  pub first_unfit : token_width ≤ length tokens → fits s src table list ≡ false
      → many_refused DOES_NOT_FIT s table list area tokens ≡ scan_many_of src s table list area tokens
  unfolding scan_many_of
  first_unfit h unfit = rw (le-ltb _ _ h, scan_unfit src s table list area unfit)

  -- a call that is refused leaves all as it was
  pub many_kept : ((scan_many_of src s table list area tokens).refusal ≡ 0 → ⊥)
      → scan_many_of src s table list area tokens ≡ many_refused (scan_many_of src s table list area tokens).refusal s table list area tokens
  unfolding scan_many_of
  many_kept =
      let Kept : ManyLeft → Type 0 = λ l. (l.refusal ≡ 0 → ⊥) → l ≡ many_refused l.refusal s table list area tokens in
      let n = (scan_of src s table list area).answer.refusal in
      let some = left_after 0 tokens (many_of (token_room tokens) src s table list area) in
      let kept = many_refused n s table list area tokens in
      cond_ind Kept (ltb (length tokens) token_width) (many_refused DOES_NOT_FIT s table list area tokens) (cond (eqb n 0) some kept) (λ _ _. refl)
      (λ _. cond_ind Kept (eqb n 0) some kept (λ _ h. absurd (h refl)) (λ _ _. refl))

  -- scans that came to their end after so many tokens
  module _ (enough : token_width ≤ length tokens) (s' : State) (table' list' area' tokens' : List ℕ) (count : ℕ)
      (e : left_after 0 tokens (many_of (token_room tokens) src s table list area) ≡ left_after count tokens' (stopped s' table' list' area')) where
    some_room : token_room tokens ≡ suc (token_room tokens - 1)
    some_room = omega arith

    abbrev number : ℕ
    number = (scan_of src s table list area).answer.refusal

    counted : (left_after 0 tokens (many_of (token_room tokens) src s table list area)).count ≡ count
    counted = ap (λ (l : ManyLeft). l.count) e ∙ add-zero count

    refused_is : (number ≡ 0 → ⊥) → many_of (token_room tokens) src s table list area ≡ stopped s table list area
    unfolding many_of
    refused_is f = rw (some_room, ne_eqb _ _ f)

    gave_some : number ≡ 0 → count ≡ 0 → ⊥
    unfolding many_of
    gave_some z c = let some = rw (some_room, eq-eqb _ _ z) at counted in omega (arith, some, c)

    -- none: the first scan was refused
    pub none_given : count ≡ 0 → {n : ℕ} → number ≡ n
        → ◌≡◌ {A = ManyLeft} (record { refusal = n; state = s; table = table'; list = list'; area = area'; tokens = tokens'; count = 0 }) (scan_many_of src s table list area tokens)
    unfolding scan_many_of tokens_numbers
    none_given c k =
        let f : number ≡ 0 → ⊥ = λ z. gave_some z c in
        let left = rw (refused_is f) at e in
        rw (le-ltb _ _ enough, ne_eqb _ _ f, k, ap (λ (l : ManyLeft). l.table) left, ap (λ (l : ManyLeft). l.list) left, ap (λ (l : ManyLeft). l.area) left, ap (λ (l : ManyLeft). l.tokens) left)

    -- some: it was not
    pub some_given : (count ≡ 0 → ⊥)
        → ◌≡◌ {A = ManyLeft} (record { refusal = 0; state = s'; table = table'; list = list'; area = area'; tokens = tokens'; count = count }) (scan_many_of src s table list area tokens)
    unfolding scan_many_of tokens_numbers
    some_given c =
        let z : eqb number 0 ≡ true = ⊎_elim (λ t. t) (λ f. absurd (c (sym counted ∙ ap (λ (r : ManyRun). (left_after 0 tokens r).count) (refused_is (eqb-false _ _ f))))) (either (eqb number 0)) in
        rw (le-ltb _ _ enough, z, e, add-zero)
