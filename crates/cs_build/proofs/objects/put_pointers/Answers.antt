use Rattle.cs_build.specs.Laid.{laid_by}
use Rattle.cs_build.proofs.Walking.{pushed_one}
use Rattle.cs_build.proofs.objects.put_pointers.Goals as goal

pub returns : goal.returns
returns c = pushed_one laid_by c.args.objects.now.items c.push.new.self.items c.in_ok-object.object _ c.in_ok-push.ensures.items c.in_ok-object.ensures
