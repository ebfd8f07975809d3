-- `layout::put_token_at` meets its contract: the part of the slice is written, and so the slice.
use Prim.Native.Nat.{◌+◌, ◌-◌, ◌*◌, ◌≤◌}
use mathlib.Core.Path.{◌≡◌, ◌∙◌}
use native.Mathlib.Omega.{arith}
use Rattle.parts.specs.Layout.{token_width, token_numbers}
use lib.ListN.{length}
use Rattle.batch.proofs.Parts.{token_fits, part_length, part_written}
use Rattle.batch.proofs.layout.put_token_at.Goals as goal

pub returns : goal.returns
returns c =
    let a = c.args in
    let to = a.count * token_width in
    let ten : to + token_width - to ≡ token_width = omega arith in
    let room : to + token_width ≤ length a.tokens.now = token_fits a.count (length a.tokens.now) c.requires in
    let whole = part_length a.tokens.now to (token_numbers a.t) room (to + token_width - to) ten in
    part_written a.tokens.now to (token_numbers a.t) room (to + token_width - to) ten
    (c.put_token.ensures ∙ rw (whole, ten))
