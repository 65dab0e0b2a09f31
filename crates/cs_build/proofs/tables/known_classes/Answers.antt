use Rattle.std.proofs.Common.{[], ◌∷◌}
use Rattle.cs_build.proofs.tables.known_classes.Goals as goal

pub returns : goal.returns
returns c = λ i.
    c.known.ensures i
    ∷ c.kind_of_object.ensures i
    ∷ c.kind_of_object-2.ensures i
    ∷ c.kind_of_object-3.ensures i
    ∷ c.kind_of_object-4.ensures i
    ∷ c.kind_of_object-5.ensures i
    ∷ c.kind_of_object-6.ensures i
    ∷ c.kind_of_object-7.ensures i
    ∷ c.kind_of_object-8.ensures i
    ∷ c.kind_of_object-9.ensures i
    ∷ c.kind_of_object-10.ensures i
    ∷ c.known-2.ensures i
    ∷ c.kind_of_object-11.ensures i
    ∷ c.kind_of_object-12.ensures i
    ∷ c.kind_of_object-13.ensures i
    ∷ c.kind_of_object-14.ensures i
    ∷ c.kind_of_object-15.ensures i
    ∷ c.kind_of_object-16.ensures i
    ∷ c.kind_of_object-17.ensures i
    ∷ c.kind_of_object-18.ensures i
    ∷ c.kind_of_object-19.ensures i
    ∷ c.kind_of_object-20.ensures i
    ∷ []
