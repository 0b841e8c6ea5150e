-- `tablefile::head` meets its contract.
use Rattle.refusal.proofs.Order.{answer_err}
use Rattle.tablefile.proofs.HeadCases.{head_under, head_differs, head_version, head_empty, head_many, head_size, head_ok}
use Rattle.tablefile.proofs.head.Goals as goal

pub returns-then-s-lt4 : goal.returns-then-s-lt4
returns-then-s-lt4 c = search (answer_err, head_under)

pub returns-then-follow-s : goal.returns-then-follow-s
returns-then-follow-s c = search (answer_err, head_differs)

pub returns-then-byte-ne1 : goal.returns-then-byte-ne1
returns-then-byte-ne1 c = search (answer_err, head_version)

pub returns-then-n-eq0 : goal.returns-then-n-eq0
returns-then-n-eq0 c = search (answer_err, head_empty)

pub returns-then-n-gt16 : goal.returns-then-n-gt16
returns-then-n-gt16 c = search (answer_err, head_many)

pub returns-then-follow-n : goal.returns-then-follow-n
returns-then-follow-n c = search (answer_err, head_size)

pub returns : goal.returns
returns c = search (head_ok)
