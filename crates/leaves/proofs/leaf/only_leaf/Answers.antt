-- `leaves::leaf::only_leaf` meets its contract: each return is a rule of `Leafing`.
use mathlib.Core.Path.{refl}
use Rattle.leaves.proofs.Leafing.{leaf_disabled, leaf_added}
use Rattle.leaves.proofs.leaf.only_leaf.Goals as goal

pub is_enabled-requires : goal.is_enabled-requires
is_enabled-requires c = record { places_fit = c.requires.places_fit; begins_len = c.requires.begins_len; inputs_len_bound = c.requires.inputs_len_bound; every = c.requires.every; every_2 = c.requires.every_2 }

pub insert_row-requires : goal.insert_row-requires
insert_row-requires c = record { kept = c.requires.held.kept; n_le_most = (c.requires.held.within, c.requires.held.room); every = c.requires.every_3 }

pub returns-then-is_enabled : goal.returns-then-is_enabled
returns-then-is_enabled c = leaf_added _ _ _ _ _ _ _ _ _ _ _ c.requires.held c.is_enabled.ensures c.if-is_enabled.true refl c.insert_row.ensures

pub returns : goal.returns
returns c = leaf_disabled _ _ _ _ _ _ _ _ _ _ _ c.requires.held c.is_enabled.ensures c.if-is_enabled.false
