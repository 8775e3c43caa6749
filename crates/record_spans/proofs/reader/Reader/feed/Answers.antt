use Rattle.std.proofs.Common.{arith, ◌≡◌, ◌++◌, OnOk}
use Rattle.std.proofs.lemmas.Grind.{common_steps}
use Rattle.std.proofs.lemmas.Result.{on_ok_weaker}
use Rattle.record_spans.specs.contracts.reader.Reader.{the_view}
use Rattle.record_spans.proofs.SpanLemmas.{more_fed}
use Rattle.record_spans.proofs.reader.Reader.feed.Goals as goal

pub returns-clause-account : goal.returns-clause-account
returns-clause-account c =
    let new = the_view (record { alloc = c.if-self-gt0.self-inside.alloc; bytes = c.extend_from_slice.new.self; start = c.if-self-gt0.self-inside.start }) in
    let grown : OnOk c.extend_from_slice.result (new ≡ c.args.self.now ++ c.args.piece.now) = grind (arith, common_steps) in
    on_ok_weaker c.extend_from_slice.result (λ is fed given. more_fed fed given c.args.self.now c.args.piece.now new is) grown
