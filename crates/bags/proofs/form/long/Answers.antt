-- `bags::form::long` meets its contract.
use borrow.Author.Rules.{rules}
use Rattle.bags.proofs.Orders.{long_by}
use Rattle.bags.proofs.form.long.Goals as goal

pub returns : goal.returns
returns c = search (long_by, rules)
