-- `quick::try_plain` meets its contract: what passes the tests is committed as a scan commits it.
use Prim.Native.Nat.{◌+◌, ◌<◌, ◌^◌}
use mathlib.Core.Path.{◌≡◌, sym, ◌∙◌}
use mathlib.Core.Bool.{true}
use native.Mathlib.Omega.{arith}
use lib.ListN.{length}
use Rattle.scanner.specs.Quick.{ends_in_feed, is_quick}
use Rattle.scanner.proofs.Tries.{lines_fit, feeds_within, offset_fits, feeds_fit, quick_plain, tries_on_line, quick_ready, tries_done}
use Rattle.scanner.proofs.quick.try_plain.Goals as goal
use Rattle.scanner.proofs.quick.try_plain.Goals.{Else-not-ends_in_feed, Else-not-is_quick, Start}

-- the source is short of half the numbers
short : (s : Start) → length s.args.src.now < 2 ^ 63
short s = omega (arith, s.well_formed.0.1)

pub overflow_add-offset : goal.overflow_add-offset
overflow_add-offset c = record { fits = offset_fits _ _ _ _ _ _ _ c.requires (short (goal.at.overflow_add-offset c).Start) }

quick : (c : Else-not-is_quick) → let a = c.args in is_quick a.state a.pass.token (a.state.offset + a.pass.chars) ≡ true
quick c = sym c.is_quick.ensures ∙ c.if-not-is_quick.false

pub overflow_add-feeds : goal.overflow_add-feeds
overflow_add-feeds c = record { fits = feeds_fit _ _ _ _ _ _ _ c.requires (short (goal.at.overflow_add-feeds c).Start) }

pub given-requires : goal.given-requires
given-requires c =
    quick_plain _ _ _ _ _ _ _ c.requires (quick (goal.at.given-requires c).Else-not-is_quick) (short (goal.at.given-requires c).Start)

pub returns-then-feeds-eq0 : goal.returns-then-feeds-eq0
returns-then-feeds-eq0 c =
    tries_on_line _ _ _ _ _ _ _ c.requires (quick (goal.at.returns-then-feeds-eq0 c).Else-not-is_quick) c.if-feeds-eq0.true c.given.ensures

pub ends_in_feed-requires : goal.ends_in_feed-requires
ends_in_feed-requires c = feeds_within _ _ _ _ _ _ _ c.requires

ends : (c : Else-not-ends_in_feed) → let a = c.args in ends_in_feed a.src.now a.pass.token ≡ true
ends c = sym c.ends_in_feed.ensures ∙ c.if-not-ends_in_feed.false

pub overflow_sub-table : goal.overflow_sub-table
overflow_sub-table c = lines_fit _ _ _ _ _ _ _ c.requires

pub give_quick-requires : goal.give_quick-requires
give_quick-requires c =
    quick_ready _ _ _ _ _ _ _ c.requires (quick (goal.at.give_quick-requires c).Else-not-is_quick) (ends (goal.at.give_quick-requires c).Else-not-ends_in_feed) c.if-table-state.false (short (goal.at.give_quick-requires c).Start)

pub returns : goal.returns
returns c =
    tries_done _ _ _ _ _ _ _ c.requires (quick (goal.at.returns c).Else-not-is_quick) (ends (goal.at.returns c).Else-not-ends_in_feed) c.if-table-state.false c.give_quick.ensures.0 c.give_quick.ensures.1
