use Rattle.cs_cli.proofs.refusal.refuse.Goals as goal

pub returns-in-Read : goal.returns-in-Read
returns-in-Read g c = rw c.in-Read.is c.print_read.ensures

pub returns-in-Image : goal.returns-in-Image
returns-in-Image g c = rw c.in-Image.is c.refuse_image.ensures
