use Rattle.std.proofs.Common.{rules}
use lib.Signed.{le_z}
use Rattle.std.proofs.lemmas.List.Sorted.{IsPartitionPoint-from_clause}
use Rattle.calendar.proofs.Searched.{parted, some, not_all, begun, open_after}
use Rattle.calendar.proofs.dates.searched.Goals as goal

pub overflow_sub-result : goal.overflow_sub-result
overflow_sub-result c =
    let xs = c.month_firsts.result.now in
    let table = c.month_firsts.ensures in
    let point = IsPartitionPoint-from_clause (λ y. le_z y c.args.day) xs _ c.partition_point.ensures.partitioned (parted xs table c.args.day) (λ a r q k. search rules) in
    some xs table c.args.day _ c.partition_point.ensures.bound point c.requires.from c.requires.to

pub returns : goal.returns
returns c =
    let xs = c.month_firsts.result.now in
    let table = c.month_firsts.ensures in
    let point = IsPartitionPoint-from_clause (λ y. le_z y c.args.day) xs _ c.partition_point.ensures.partitioned (parted xs table c.args.day) (λ a r q k. search rules) in
    let bound = c.partition_point.ensures.bound in
    record {
      within = not_all xs table c.args.day _ bound point c.requires.from c.requires.to;
      begun = begun xs table c.args.day _ bound point c.requires.from c.requires.to;
      «open» = open_after xs table c.args.day _ bound point c.requires.from c.requires.to;
    }
