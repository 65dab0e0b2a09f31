use Rattle.cs_inspect.proofs.Sides.{classes_all, classes_more, classes_other, classes_same}
use Rattle.cs_inspect.proofs.comparison.same_classes.Goals as goal

pub loop-index-preserved : goal.loop-index-preserved
loop-index-preserved c =
    classes_more c.args.a.now.addresses.now.keys c.args.b.now.addresses.now.keys c.args.a.now.image.now.classes c.args.b.now.image.now.classes c.loop-index.index c.same_class-same.result c.loop-index.invariant c.same_class-same.ensures c.if-not-same.false

pub returns-then-not-same : goal.returns-then-not-same
returns-then-not-same c =
    classes_other c.args.a.now.addresses.now.keys c.args.b.now.addresses.now.keys c.args.a.now.image.now.classes c.args.b.now.image.now.classes c.loop-index.index c.same_class-same.result c.same_class-same.ensures c.if-not-same.true

pub returns : goal.returns
returns c =
    classes_same c.args.a.now.addresses.now.keys c.args.b.now.addresses.now.keys c.args.a.now.image.now.classes c.args.b.now.image.now.classes (classes_all c.args.a.now.addresses.now.keys c.args.b.now.addresses.now.keys c.args.a.now.image.now.classes c.args.b.now.image.now.classes c.loop-index.index c.requires.first.entries.within c.requires.second.entries.within c.loop-index-test.false c.loop-index.invariant)
