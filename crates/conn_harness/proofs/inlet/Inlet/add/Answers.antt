use Rattle.conn_harness.proofs.inlet.Inlet.add.Goals as goal

pub invariant_of-result-clause-even : goal.invariant_of-result-clause-even
invariant_of-result-clause-even g c = c.add_in_turn-added.ensures.even c.args.self.even

pub invariant_of-result-clause-closed : goal.invariant_of-result-clause-closed
invariant_of-result-clause-closed g c = c.add_in_turn-added.ensures.closed c.args.self.closed
