use Rattle.cbt_history.proofs.steps.push_step.Goals as goal

pub returns-in-ReadEntry : goal.returns-in-ReadEntry
returns-in-ReadEntry c = rw c.in-ReadEntry.is c.push_entry.ensures

pub returns-in-DropEntry : goal.returns-in-DropEntry
returns-in-DropEntry c = rw c.in-DropEntry.is c.push_drop.ensures

pub returns-in-ReadClients : goal.returns-in-ReadClients
returns-in-ReadClients c = rw c.in-ReadClients.is c.push_str.ensures.ok
