-- `bagreport::shares_of` meets its contract.
use native.Mathlib.Omega.{arith}
use borrow.Author.Rules.{rules}
use Rattle.std.proofs.lemmas.Iterator.Adapters.{serves_from_places}
use Rattle.bagreport.specs.Answers.{no_share}
use Rattle.bagreport.specs.Turns.{no_counts}
use Rattle.bagreport.proofs.SharesFilled.{place_fits, each_place, shares_made}
use Rattle.bagreport.proofs.shares_of.Goals as goal

pub map-requires : goal.map-requires
map-requires c = (omega arith, (omega arith, (omega arith, serves_from_places (each_place c.requires.2) (λ x q r. search rules) (place_fits c.requires.2 c.requires.1))))

pub returns : goal.returns
returns c = shares_made c.requires.2 c.requires.0 _ c.map.ensures.items.long (λ k l. let m = c.map.ensures.items.at k no_counts no_share l in search rules)
