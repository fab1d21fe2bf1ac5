-- `menus::menu::list_bindings` meets its contract: the search starts from the empty binding and no rows, and each return is a rule of `Listing`.
use mathlib.Core.Path.{◌≡◌, refl, sym, subst}
use Prim.Native.Nat.{ℕ, ◌≤◌}
use native.Mathlib.Omega.{arith}
use borrow.Author.Rules.{rules}
use lib.ListN.{length, take, replicate}
use lib.Seq.{length-take-le}
use Rattle.rows.specs.Rows.{rows_of}
use Rattle.leaves.specs.Leaf.{Held}
use Rattle.search.proofs.Worlds.{few-variables}
use Rattle.menus.proofs.Listing.{held_none, most_roomy, start_sound, listed_10, listed_11, listed_found, ended_most}
use Rattle.menus.proofs.menu.list_bindings.Goals as goal

-- a slot for each variable
slots-full : (v : ℕ) → v ≤ 8 → length (take v (replicate {A = ℕ} 8 0)) ≡ v
slots-full v h = length-take-le v (replicate {A = ℕ} 8 0) (omega arith)

pub slice_bounds-slots-end : goal.slice_bounds-slots-end
slice_bounds-slots-end c = few-variables c.requires.world

pub slice_bounds-search_plan-end : goal.slice_bounds-search_plan-end
slice_bounds-search_plan-end c = sym (slots-full _ (few-variables c.requires.world))

pub search_plan-end-requires : goal.search_plan-end-requires
search_plan-end-requires c =
    let W = c.requires.world in
    record { world = W; slots_len = slots-full _ (few-variables W); sound = start_sound W; unspared = c.requires.unspared; held = subst (λ (k : ℕ). Held c.args.variables k 0 c.args.menu.now) (sym c.most_rows-most.ensures) (held_none c.args.variables (length c.args.menu.now) c.args.menu.now refl) }

pub returns-then-end : goal.returns-then-end
unfolding rows_of
returns-then-end c = let W = c.requires.world in record { listed = listed_10 W c.args.budget c.args.menu.now (ended_most c.most_rows-most.ensures c.search_plan-end.ensures) c.if-end.true (c.fill.ensures.after (λ y e. e)) c.search_plan-end.auto.menu }

pub returns-then-end-2 : goal.returns-then-end-2
unfolding rows_of
returns-then-end-2 c = let W = c.requires.world in record { listed = listed_11 W c.args.budget c.args.menu.now (ended_most c.most_rows-most.ensures c.search_plan-end.ensures) c.if-end.false c.if-end-2.true (c.fill-then-end-2.ensures.after (λ y e. e)) c.search_plan-end.auto.menu }

pub overflow_cast-result : goal.overflow_cast-result
overflow_cast-result c = let f = (most_roomy (length c.args.menu.now) c.args.variables).few in let w = c.search_plan-end.ensures.within in let e = c.most_rows-most.ensures in search rules

pub returns : goal.returns
unfolding rows_of
returns c = let W = c.requires.world in record { listed = listed_found W c.args.budget c.args.menu.now (ended_most c.most_rows-most.ensures c.search_plan-end.ensures) c.if-end.false c.if-end-2.false }
