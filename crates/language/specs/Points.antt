-- The words that spell a command on points.
use Rattle.std.specs.Prelude.{◌≡◌, ℕ, List, [], ◌∷◌, codes, Result, MatchResult, ◌≢◌}
use Rattle.language.specs.declared.misreads.Misread.{Misread}
use Rattle.spans.specs.declared.relations.Relation.{Relation}
use Rattle.spans.specs.declared.relations.Relation.TheVariants as relation
use Rattle.language.specs.declared.points.Comparison.{Comparison}
use Rattle.language.specs.declared.points.Comparison.TheVariants as comparison
use Rattle.language.specs.declared.points.PointCommand.{PointCommand}
use Rattle.language.specs.declared.points.PointCommand.TheVariants.{Point, Bind, Lesser, Greater, Compare, Relate, Holds}

abbrev pub comparison_text : Comparison → List ℕ
comparison_text comparison.Before = codes "before"
comparison_text comparison.Equal = codes "equal"
comparison_text comparison.AtMost = codes "at-most"

-- the comparison that the word names, or that it names none
abbrev pub ComparisonRead : List ℕ → Result Comparison Misread → Type 0
ComparisonRead w r = MatchResult r (λ c. w ≡ comparison_text c) (λ _. (c : Comparison) → w ≢ comparison_text c)

abbrev pub relation_text : Relation → List ℕ
relation_text relation.Before = codes "before"
relation_text relation.Meets = codes "meets"
relation_text relation.Overlaps = codes "overlaps"
relation_text relation.During = codes "during"
relation_text relation.Equals = codes "equals"

-- the relation that the word names, or that it names none
abbrev pub RelationRead : List ℕ → Result Relation Misread → Type 0
RelationRead w r = MatchResult r (λ x. w ≡ relation_text x) (λ _. (x : Relation) → w ≢ relation_text x)

-- the words spell the command
abbrev pub SpelledPoints : PointCommand → List (List ℕ) → Type 0
SpelledPoints (Point p) ws = ws ≡ codes "point" ∷ p.now ∷ []
SpelledPoints (Bind p s) ws = ws ≡ codes "bind" ∷ p.now ∷ s.now ∷ []
SpelledPoints (Lesser p q) ws = ws ≡ codes "lesser" ∷ p.now ∷ q.now ∷ []
SpelledPoints (Greater p q) ws = ws ≡ codes "greater" ∷ p.now ∷ q.now ∷ []
SpelledPoints (Compare c p q) ws = ws ≡ codes "compare" ∷ comparison_text c ∷ p.now ∷ q.now ∷ []
SpelledPoints (Relate x i) ws = ws ≡ codes "relation" ∷ relation_text x ∷ i.start.now ∷ i.end.now ∷ i.from.now ∷ i.to.now ∷ []
SpelledPoints (Holds s e p) ws = ws ≡ codes "holds" ∷ s.now ∷ e.now ∷ p.now ∷ []

-- the command that the words spell, or that they spell none
abbrev pub PointsRead : List (List ℕ) → Result PointCommand Misread → Type 0
PointsRead ws r = MatchResult r (λ c. SpelledPoints c ws) (λ _. (c : PointCommand) → SpelledPoints c ws → ⊥)
