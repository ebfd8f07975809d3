-- A run as far as eight bytes go.
use Rattle.std.specs.Prelude.{ℕ, min, List, take, drop}
use Rattle.swar.specs.Number.{number_of}
use Rattle.utf8.specs.Chars.{chars}
use Rattle.words.specs.Word.{word_len}
use Rattle.words.specs.declared.Near.{Near}

-- its length, and the number that its bytes are
abbrev pub near_run : List ℕ → ℕ → Near
near_run src at =
    let len = min 8 (word_len (chars (drop at src))) in
    record { len = len; number = number_of (take len (drop at src)) }
