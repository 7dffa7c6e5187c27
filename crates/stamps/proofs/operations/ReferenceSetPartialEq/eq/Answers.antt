use Rattle.std.proofs.lemmas.Slice.Eq.{slice_eq-Decides}
use Rattle.std.proofs.lemmas.Bool.{eq-eqb, eqb-true}
use Rattle.stamps.proofs.Readings.{same_parts, same_has}
use Rattle.stamps.proofs.operations.ReferenceSetPartialEq.eq.Goals as goal
use Rattle.std.proofs.lemmas.Bool.Decides.{Decides-eqb}

pub returns-then-self-other-clause-places : goal.returns-then-self-other-clause-places
returns-then-self-other-clause-places c =
    let d = slice_eq-Decides Decides-eqb c.args.self.now.edges c.args.other.now.edges c.eq.result c.eq.ensures in (
      λ t. same_has c.args.self.now c.args.other.now c.if-self-other.true (d.0 t),
      λ same. d.1 (same_parts c.args.self.now c.args.other.now same).1,
    )

pub returns-else-self-other-clause-places : goal.returns-else-self-other-clause-places
returns-else-self-other-clause-places c = (
  λ t. absurd (c.if-self-other.false (eqb-true c.args.self.now.used c.args.other.now.used t)),
  λ same. eq-eqb c.args.self.now.used c.args.other.now.used (same_parts c.args.self.now c.args.other.now same).0,
)
