-- `leaves::leaf::leaf` meets its contract: each return is a rule of `Leafing`.
use Rattle.gathering.proofs.Gathering.{keeps_all}
use Rattle.leaves.proofs.Leafing.{leaf_over, leaf_disabled, leaf_added}
use Rattle.leaves.proofs.leaf.leaf.Goals as goal

pub returns-then-full : goal.returns-then-full
returns-then-full c = record { leaf = leaf_over _ _ _ _ _ _ _ _ _ _ _ c.requires.held c.if-full.true; keeps = keeps_all _ _ _ }

pub enabled_behind-requires : goal.enabled_behind-requires
enabled_behind-requires c = record { places_fit = c.requires.places_fit; begins_len = c.requires.begins_len; inputs_len_bound = c.requires.inputs_len_bound; keys_len = c.requires.keys_len; every = c.requires.every; every_2 = c.requires.every_2; known = c.requires.known }

pub insert_row-requires : goal.insert_row-requires
insert_row-requires c = record { kept = c.requires.held.kept; n_le_most = (c.requires.held.within, c.requires.held.room); every = c.requires.every_3 }

pub returns-then-enabled_behind : goal.returns-then-enabled_behind
returns-then-enabled_behind c = record { leaf = leaf_added _ _ _ _ _ _ _ _ _ _ _ c.requires.held c.enabled_behind.ensures.enabled_at c.if-enabled_behind.true c.if-full.false c.insert_row.ensures; keeps = c.enabled_behind.ensures.keeps }

pub returns : goal.returns
returns c = record { leaf = leaf_disabled _ _ _ _ _ _ _ _ _ _ _ c.requires.held c.enabled_behind.ensures.enabled_at c.if-enabled_behind.false; keeps = c.enabled_behind.ensures.keeps }
