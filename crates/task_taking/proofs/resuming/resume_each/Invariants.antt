use Rattle.std.proofs.Common.{◌≡◌, ◌<◌, ◌≤◌, ℕ, suc}
use Rattle.gate_account.specs.Accounts.{Keeps}
use Rattle.task_taking.proofs.resuming.resume_each.Given as goal

-- the channels before this one were resumed
abbrev pub invariant-loop-channel : goal.invariant-loop-channel
invariant-loop-channel g l =
    let was = g.G.Gate.account l.initial.gate in
    let now = g.G.Gate.account l.gate in
    record {
      ends : g.G.Gate.ends l.gate ≡ g.G.Gate.ends l.initial.gate;
      channels : now.channels ≡ was.channels;
      lines : (c : ℕ) → now.lines c ≡ was.lines c;
      barriers : (c : ℕ) → now.barriers c ≡ was.barriers c;
      done : (c : ℕ) → c < l.channel → now.resumed c ≡ suc (was.resumed c);
      rest : (c : ℕ) → l.channel ≤ c → now.resumed c ≡ was.resumed c;
      ended : (c : ℕ) → now.ended c ≡ was.ended c;
      left : (c : ℕ) → now.left c ≡ was.left c;
      kept : Keeps (g.G.Gate.shows l.initial.gate) (g.G.Gate.shows l.gate);
    }
