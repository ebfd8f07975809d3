-- What a part of the source or of the text area shows.
use Rattle.std.specs.Prelude.{ℕ, ◌-◌, cond, ◌&&◌, List, [], leb, length, take, drop, Result, Ok, Err}
use Rattle.std.specs.Borrow.{Bor}
use Rattle.refusal.specs.declared.Refusal.{Refusal}
use Rattle.refusal.specs.Outcome.{refusal_number}
use Rattle.refusal.specs.Refusals.{DOES_NOT_FIT}
use Rattle.parts.specs.declared.part.Part.{Part}

-- the bytes of a part of a buffer; "a token's part outside its buffer" is refused with 6
pub record Shown : Type 0 where
  pub bytes : List ℕ
  pub refusal : ℕ

abbrev pub shown_in : List ℕ → Part → Shown
shown_in buffer p =
    cond (leb p.start p.end && leb p.end (length buffer))
    (record { bytes = take (p.end - p.start) (drop p.start buffer); refusal = 0 })
    (record { bytes = []; refusal = DOES_NOT_FIT })

-- "a part of the source or of the text area"
unfoldable pub shown_of : List ℕ → List ℕ → Part → Shown
shown_of src area p = cond p.area (shown_in area p) (shown_in src p)

-- what an answer of the code shows: nothing where it is refused
abbrev pub shown_as : Result (Bor (List ℕ)) Refusal → Shown
shown_as (Ok part) = record { bytes = part.now; refusal = 0 }
shown_as (Err refusal) = record { bytes = []; refusal = refusal_number refusal }
