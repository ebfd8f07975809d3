-- What the functions of the keyword search give.
use Rattle.std.specs.Prelude.{ℕ, zero, suc, ◌+◌, ◌*◌, ◌/◌, ◌%◌, cond, ◌&&◌, List, [], ◌∷◌, eqb, leb, length, get_or}
use Rattle.swar.specs.Number.{number_of}
use Rattle.kinds.specs.Kinds.{IDENT}
use Rattle.kinds.specs.Table as Table

-- the slot of a number of n bytes: by n and the first two bytes
unfoldable pub slot_of : ℕ → ℕ → ℕ
slot_of number n = (n + number % 256 * 8 + number / 256 % 256 * 59) % 64

-- the slot of a word
abbrev pub slot_of_word : List ℕ → ℕ
slot_of_word word = slot_of (number_of word) (length word)

-- a row of the code: a kind and a spelling as a number
abbrev pub pair : ℕ → ℕ → ℕ × ℕ
pair kind number = (kind, number)

-- the first keyword of at most eight bytes in a slot; where there is none, IDENT and 0
unfoldable pub row_in : ℕ → List Table.Row → ℕ × ℕ
row_in slot [] = pair IDENT 0
row_in slot (k ∷ ks) = cond (leb (length k.name) 8 && eqb slot (slot_of_word k.name)) (pair k.kind (number_of k.name)) (row_in slot ks)

-- what each of the 64 slots has
unfoldable pub slots_from : (ℕ → ℕ) → ℕ → ℕ → List ℕ
slots_from f slot zero = []
slots_from f slot (suc n) = f slot ∷ slots_from f (suc slot) n

unfoldable pub by_slot : (ℕ → ℕ) → List ℕ
by_slot f = slots_from f 0 64

-- the kind that tables by slots give to a number of n bytes
abbrev pub kind_in : List ℕ → List ℕ → ℕ → ℕ → ℕ
kind_in numbers kinds number n = cond (eqb (get_or numbers (slot_of number n) 0) number) (get_or kinds (slot_of number n) 0) IDENT
