-- `bagreport::written` meets its contract.
use Prim.Native.Nat.{◌/◌}
use mathlib.Core.Path.{◌≡◌}
use borrow.Author.Rules.{rules}
use lib.ListN.{length, replicate}
use Rattle.bagreport.proofs.SecondPass.{desk_row, desk_few, desk_ordered, desk_place, cleared_bags, written_bytes}
use Rattle.bagreport.proofs.written.Goals as goal

pub overflow_sub-place : goal.overflow_sub-place
overflow_sub-place c = search (desk_row)

pub pass-requires : goal.pass-requires
pass-requires c =
    let z : c.fill.new.self ≡ replicate (length c.args.spans.now / 2) 0 = search rules in
    (search rules, search rules, search (desk_place), search (desk_ordered), search (cleared_bags))

pub shares_of-shares-requires : goal.shares_of-shares-requires
shares_of-shares-requires c = (search rules, search (desk_few), search rules)

pub returns-clause-bytes : goal.returns-clause-bytes
returns-clause-bytes c =
    let z : c.fill.new.self ≡ replicate (length c.args.spans.now / 2) 0 = search rules in
    search (written_bytes)
