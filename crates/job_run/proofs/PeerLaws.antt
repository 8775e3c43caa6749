-- From what the loops of a job met to the wires that were given back.
use Rattle.std.proofs.Common.{◌≡◌, ℕ, suc, Bool, List, length, Option, Some, None, inl, inr, ◌∙◌, arith}
use Rattle.std.proofs.lemmas.Option.{slice_get_within}
use Rattle.flow_defs.specs.declared.cause.PeerFault.{PeerFault}
use Rattle.flow_defs.specs.Jobs.{last_edge}
use Rattle.net_frames.specs.declared.frame.Frame.{Frame}
use Rattle.outside.specs.declared.wires.Wire.{Wire}
use Rattle.job_ends.specs.Returning.{ReadSame, RowsCameBack}
use Rattle.job_outcome.specs.Grounds.{HasMetFault, HasPeerFault}
use Rattle.job_outcome.specs.Theorems.{HaveRun, Run}
use Rattle.job_outcome.specs.Words.{WorldWords}
use Rattle.job_run.specs.Wires.{IsPeerGround}

-- What a half met, one met that tells the same.
met_too : {O I : Type 0} {sent : O → Option (List ℕ)} {got : I → Option (List ℕ)} {ended : I → Option Bool} {is_from : Frame → Bool} {begins : PeerFault → List ℕ → Type 0}
    {half back : I} {fault : PeerFault} → ReadSame got ended half back →
    HasMetFault sent got ended is_from begins half fault → HasMetFault sent got ended is_from begins back fault
met_too same met = record {
  messages = met.messages;
  left = met.left;
  frames = met.frames;
  direction = met.direction;
  bytes = λ tell. same.got_is ∙ met.bytes tell;
  met = met.met;
  cut = λ every is. same.ended_is ∙ met.cut every is;
}

module _ {S O I L N : Type 0} {words : WorldWords S O I L N} {run : Run S O I} (ran : HaveRun words run) where
  open run use {job, loops}

  many : length loops ≡ suc (last_edge job)
  many = ran.loops_many ∙ ran.deployed.loops_many

  pub peer_ground : (before after : Option (List (Wire O I))) → RowsCameBack words.got words.ended before after loops (suc (last_edge job)) → (fault : PeerFault) →
      HasPeerFault words.sent words.got words.ended job loops fault → IsPeerGround words.sent words.got words.ended job before after fault
  peer_ground before after came fault (inl found) = inl found
  peer_ground None after came fault (inr met) = inr tt
  peer_ground (Some had) after came fault (inr (inl met)) =
      let within = slice_get_within loops met.0 met.2 met.4 in
      let back = came.3 met.0 met.2 (omega (arith, within, many)) met.4 in
      inr (came.0, came.1, (met.0, back.0, back.1, inl (met_too (back.2.items met.1 met.3 met.5) met.6)))
  peer_ground (Some had) after came fault (inr (inr met)) =
      let within = slice_get_within loops met.0 met.2 met.4 in
      let back = came.3 met.0 met.2 (omega (arith, within, many)) met.4 in
      inr (came.0, came.1, (met.0, back.0, back.1, inr (met_too (back.2.control met.1 met.3 met.5) met.6)))
