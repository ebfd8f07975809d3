-- What is written to the whole of a part of a list is written to the list there.
use Prim.Native.Nat.{ℕ, ◌+◌, ◌*◌, ◌/◌, ◌≤◌, ◌<◌}
use mathlib.Core.Path.{◌≡◌, sym, ap, ◌∙◌}
use mathlib.Core.List.{List, ◌++◌, append_assoc, append-nil}
use native.Mathlib.Nat.{zero-add}
use native.Mathlib.Omega.{arith}
use lib.ListN.{length, take, drop, length-drop, drop_of_length-le}
use Rattle.parts.specs.Layout.{token_width}
use lib.Seq.{sets, sets-eq, length-take-le, drop-drop}

module _ {A : Type 0} (l : List A) (to : ℕ) (vs : List A) (room : to + length vs ≤ length l) where
  module _ (m : ℕ) (as_long : m ≡ length vs) where
    -- the part is as long as what is written
    pub part_length : length (take m (drop to l)) ≡ m
    part_length = length-take-le m (drop to l) (omega (arith, as_long, length-drop to l))

    filled : sets (take m (drop to l)) 0 vs ≡ vs
    filled =
        sets-eq vs (take m (drop to l)) 0 (omega (arith, part_length, as_long, zero-add (length vs)))
        ∙ ap (λ k. vs ++ k) (drop_of_length-le (take m (drop to l)) {i = 0 + length vs} (omega (arith, part_length, as_long, zero-add (length vs))))
        ∙ append-nil vs

    pub part_written : {part : List A} → part ≡ sets (take m (drop to l)) 0 vs
        → take to l ++ (part ++ drop m (drop to l)) ≡ sets l to vs
    part_written e =
        ap (λ k. take to l ++ (k ++ drop m (drop to l))) (e ∙ filled)
        ∙ ap (λ k. take to l ++ (vs ++ k)) (drop-drop m to l ∙ ap (λ k. drop (to + k) l) as_long)
        ∙ sym (append_assoc (take to l) vs (drop (to + length vs) l))
        ∙ sym (sets-eq vs l to room)

-- where there is room for a token after so many, its numbers fit
pub token_fits : (count len : ℕ) → count < len / token_width → count * token_width + token_width ≤ len
token_fits count len h = omega arith
