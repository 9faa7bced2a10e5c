use Rattle.run.proofs.chosen.AnyMethodChosen.estimate.Goals as goal

pub returns-in-PreviousThree : goal.returns-in-PreviousThree
returns-in-PreviousThree g c = rw c.in-PreviousThree.is c.estimate-in-PreviousThree.ensures

pub returns-in-LaterThree : goal.returns-in-LaterThree
returns-in-LaterThree g c = rw c.in-LaterThree.is c.estimate-in-LaterThree.ensures
