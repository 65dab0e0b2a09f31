use Rattle.cs_cli.proofs.text_refusal.refuse_fault.Goals as goal

pub returns-in-NoMemory : goal.returns-in-NoMemory
returns-in-NoMemory g c = rw c.in-NoMemory.is c.print.ensures.printed
