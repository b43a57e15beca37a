use Rattle.shadow.proofs.shadow.Shadow.go_to.Given as goal

abbrev pub ghost-becoming : goal.ghost-becoming
ghost-becoming g a = g.next
