-- The errors that a list holds, one error more, and the error at an index.
use Rattle.std.specs.Prelude.{ℕ, zero, suc, ◌+◌, ◌*◌, ◌/◌, cond, List, [], ◌∷◌, ◌++◌, leb, ltb, length}
use Rattle.std.proofs.Math.Option.{Option}
use Rattle.std.proofs.Math.ListN.{get_elem?}
use Rattle.std.proofs.lemmas.List.Edits.{sets}
use Rattle.refusal.specs.Outcome.{Outcome, refused, gave}
use Rattle.refusal.specs.Refusals.{DOES_NOT_FIT, LIST_FULL}
use Rattle.errors.specs.declared.layout.Error.{Error}
use Rattle.errors.specs.Layout.{width, numbers, record_at}

-- how many records a list holds
abbrev pub room_of : List ℕ → ℕ
room_of list = length list / width

-- the first n errors, in order of arrival
unfoldable pub errors_of : ℕ → List ℕ → List Error
errors_of zero list = []
errors_of (suc n) list = errors_of n list ++ (record_at list (n * width) ∷ [])

-- what adding leaves in the list, and its outcome: the count of errors
pub record AddLeft : Type 0 where
  pub list : List ℕ
  pub outcome : Outcome ℕ

-- one error after the first n
unfoldable pub add_to : List ℕ → ℕ → Error → AddLeft
add_to list n e =
    cond (leb n (room_of list))
    (cond (ltb n (room_of list))
    (record { list = sets list (n * width) (numbers e); outcome = gave (n + 1) })
    (record { list = list; outcome = refused LIST_FULL }))
    (record { list = list; outcome = refused DOES_NOT_FIT })

-- the error at an index of the first n
unfoldable pub get_of : List ℕ → ℕ → ℕ → Outcome (Option Error)
get_of list n i = cond (leb n (room_of list)) (gave (get_elem? (errors_of n list) i)) (refused DOES_NOT_FIT)
