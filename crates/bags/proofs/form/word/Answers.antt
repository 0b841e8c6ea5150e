-- `bags::form::word` meets its contract.
use borrow.Author.Rules.{rules}
use Rattle.bags.proofs.Orders.{word_by}
use Rattle.bags.proofs.form.word.Goals as goal

pub returns : goal.returns
returns c = search (word_by, rules)
