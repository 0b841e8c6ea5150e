use borrow.Author.Rules.{rules}
use Rattle.share.proofs.Quotient.{number_none, number_some, mark_none, mark_some, share_made, bits_made}
use Rattle.share.proofs.divide.Goals as goal

pub returns-then-of-eq0-clause-answer : goal.returns-then-of-eq0-clause-answer
returns-then-of-eq0-clause-answer c = search (share_made, mark_none, number_none)

pub returns-then-of-eq0-clause-bits : goal.returns-then-of-eq0-clause-bits
returns-then-of-eq0-clause-bits c = search (bits_made, number_none)

pub returns-clause-answer : goal.returns-clause-answer
returns-clause-answer c = search (share_made, mark_some, number_some, rules)

pub returns-clause-bits : goal.returns-clause-bits
returns-clause-bits c = search (bits_made, number_some, rules)
