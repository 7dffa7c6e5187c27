use Rattle.std.proofs.Common.{leb, leb-true, leb-false, arith, rules}
use Rattle.std.proofs.lemmas.List.Sorted.{IsPartitionPoint-from_clause, IsPartitionedBy-leb}
use Rattle.stamps.proofs.Readings.{contained, steps_sorted}
use Rattle.stamps.proofs.sets.ReferenceSet.contains.Goals as goal

pub returns : goal.returns
returns c =
    let s = c.args.self.now in
    let p = c.args.place in
    let parted = IsPartitionedBy-leb (λ e. e) _ p (steps_sorted s) in
    let point = IsPartitionPoint-from_clause (λ e. leb e p) _ _ c.partition_point.ensures.partitioned parted (λ a r q k. search rules) in
    contained s c.partition_point.result p c.partition_point.ensures.bound
    (λ k l. leb-true _ _ (point.0 k 0 (omega arith) l))
    (λ k l m. leb-false _ _ (point.1 k 0 l m))
