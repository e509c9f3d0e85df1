use Rattle.midicsv_scan.proofs.ends.past.Given as goal

abbrev pub ghost-front : goal.ghost-front
ghost-front g a = g.holds
