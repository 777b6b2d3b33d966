-- Each call has a tenth of the number left, so the number is the measure.
use Rattle.listing.proofs.+put_natural.Given as goal

abbrev pub decreases-put_natural : goal.decreases-put_natural
decreases-put_natural l = l.n
