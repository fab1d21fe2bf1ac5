-- The measure is the number of words that the expression may take.
use lib.ListN.{length}
use Rattle.listing.proofs.spell.+spell.Given as goal

abbrev pub decreases-spell : goal.decreases-spell
decreases-spell g l = length l.words.now
