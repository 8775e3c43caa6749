-- From what is known of a run of the exchange to what is said of its job.
use Rattle.std.proofs.Common.{◌≡◌, ℕ, ◌<◌, List, length, Option, Some, None, IfSome, subst, ◌∙◌, arith, inl, inr}
use Rattle.std.specs.Prelude.{⊤}
use Rattle.std.proofs.lemmas.Option.{slice_get_within}
use Rattle.flow_defs.specs.declared.cause.Cause.{Cause}
use Rattle.flow_defs.specs.declared.cause.Cause.TheVariants as causes
use Rattle.flow_defs.specs.declared.cause.PeerFault.{PeerFault}
use Rattle.flow_defs.specs.declared.job.Job.{Job}
use Rattle.flow_defs.specs.Jobs.{tasks}
use Rattle.flow_defs.specs.Lines.{lines}
use Rattle.outside.specs.Faults.{HasRisen}
use Rattle.outside.specs.Keepers.{KeptImage}
use Rattle.job_plan.specs.declared.limits.TheConstants.{SOURCE_MAX}
use Rattle.job_plan.specs.Limits.{HasLongLine}
use Rattle.job_outcome.specs.Outcomes.{AreTold, IsRunCause, IsOfInput}
use Rattle.job_outcome.specs.Storing.{IsTooLarge}
use Rattle.job_run.specs.Wires.{IsLinkGround}
use Rattle.command_parts.specs.Causes.{of_cause, status_of}
use Rattle.command_parts.specs.Sources.{TellsSources, source_name, AreInputsOf, HasFaulty, IsSourceFault}
use Rattle.job_command.specs.RunFaults.{IsRunFault}
use Rattle.command_parts.specs.declared.fault.Fault.{Fault}
use Rattle.command_parts.specs.declared.fault.Fault.TheVariants as variants

-- a count that was 0 and has risen is above 0
above : (old new : ℕ) → old ≡ 0 → HasRisen old new → 0 < new
above old new none risen = elim risen [ inl more ↦ omega (arith, none, more) | inr full ↦ omega (arith, full) ]

whatever : (o : Option (List ℕ)) → IfSome o (λ bytes. ⊤)
whatever None = tt
whatever (Some bytes) = tt

module _ {S : Type 0} (left : S → Option (List ℕ)) (faults : S → ℕ) (before after : List S) where
  -- over links of which no call is to fail there is no fault of a link
  pub no_link : (never_fails : Type 0) (fell rose : ℕ) (peer : PeerFault → Type 0) (keeper big large : Type 0) (cause : Cause) → (big → large) → never_fails →
      IsRunCause left faults before after (IsLinkGround never_fails fell rose) peer keeper big cause → IsRunCause left faults before after ⊥ (λ _. ⊤) keeper large cause
  no_link never_fails fell rose peer keeper big large causes.Done g sure is = is
  no_link never_fails fell rose peer keeper big large causes.Stopped g sure is = is
  no_link never_fails fell rose peer keeper big large (causes.Input a) g sure is = is
  no_link never_fails fell rose peer keeper big large causes.Keeper g sure is = is
  no_link never_fails fell rose peer keeper big large causes.Link g sure is = is.may_fail sure
  no_link never_fails fell rose peer keeper big large (causes.LongLine a) g sure is = is
  no_link never_fails fell rose peer keeper big large (causes.BigSource a) g sure is = is
  no_link never_fails fell rose peer keeper big large causes.BigImage g sure is = g is
  no_link never_fails fell rose peer keeper big large (causes.OverCredit channel received announced) g sure is = is
  no_link never_fails fell rose peer keeper big large (causes.Peer fault) g sure is = tt
  no_link never_fails fell rose peer keeper big large causes.Memory g sure is = tt

  module _ (job : Job) (contents : List ℕ → Option (List ℕ)) (told : AreInputsOf left faults job contents before) (many : length before ≡ tasks job 0) where
    -- what the sources are told to be their inputs are
    pub tells_inputs : (bytes : ℕ → List ℕ) → TellsSources job contents bytes → AreTold left before bytes
    tells_inputs bytes tells = λ a input is. (told a input is).0 ∙ tells a (let inside = slice_get_within before a input is in omega (arith, many, inside))

    is_source : (a : ℕ) (P : List ℕ → Type 0) → IsOfInput left faults before after a (λ o fell rose. IfSome o P) → (a < tasks job 0) × IfSome (contents (source_name job a)) P
    is_source a P is = (let inside = slice_get_within before a is.old is.was in omega (arith, many, inside), subst (λ o. IfSome o P) (told a is.old is.was).0 is.holds)

    -- the cause of a run is a fault of its job
    pub fault_of_run : (every : Option ℕ) (kept keeps : Option (List KeptImage)) (keeper : Type 0) (cause : Cause) → IsRunCause left faults before after ⊥ (λ _. ⊤) keeper ((bytes : ℕ → List ℕ) → AreTold left before bytes → IsTooLarge job (λ a. lines (bytes a)) every kept keeps) cause → IsRunFault job every contents kept keeps (of_cause cause)
    fault_of_run every kept keeps keeper causes.Done is = absurd is
    fault_of_run every kept keeps keeper causes.Stopped is = absurd is
    fault_of_run every kept keeps keeper (causes.Input a) is = (let inside = slice_get_within before a is.old is.was in omega (arith, many, inside), whatever (contents (source_name job a)))
    fault_of_run every kept keeps keeper causes.Keeper is = tt
    fault_of_run every kept keeps keeper causes.Link is = absurd is
    fault_of_run every kept keeps keeper (causes.LongLine a) is = is_source a (λ bytes. HasLongLine (lines bytes)) is
    fault_of_run every kept keeps keeper (causes.BigSource a) is = is_source a (λ bytes. SOURCE_MAX < length bytes) is
    fault_of_run every kept keeps keeper causes.BigImage is = λ bytes tells. is bytes (tells_inputs bytes tells)
    fault_of_run every kept keeps keeper (causes.OverCredit channel received announced) is = is
    fault_of_run every kept keeps keeper (causes.Peer fault) is = tt
    fault_of_run every kept keeps keeper causes.Memory is = tt

    -- with an input fault one of the inputs that come back has a fault
    pub faulty_input : (keeper big : Type 0) (cause : Cause) → IsRunCause left faults before after ⊥ (λ _. ⊤) keeper big cause → status_of (of_cause cause) ≡ 4 → HasFaulty faults after
    faulty_input keeper big causes.Done is four = absurd is
    faulty_input keeper big causes.Stopped is four = absurd is
    faulty_input keeper big (causes.Input a) is four = (a, is.new, is.is, above (faults is.old) (faults is.new) (told a is.old is.was).1 is.holds)
    faulty_input keeper big causes.Keeper is four = absurd (cc)
    faulty_input keeper big causes.Link is four = absurd (cc)
    faulty_input keeper big (causes.LongLine a) is four = absurd (cc)
    faulty_input keeper big (causes.BigSource a) is four = absurd (cc)
    faulty_input keeper big causes.BigImage is four = absurd (cc)
    faulty_input keeper big (causes.OverCredit channel received announced) is four = absurd (cc)
    faulty_input keeper big (causes.Peer fault) is four = absurd (cc)
    faulty_input keeper big causes.Memory is four = absurd (cc)

  -- with a fault of the keeper it has failed
  pub keeper_failed : (keeper big : Type 0) (cause : Cause) → IsRunCause left faults before after ⊥ (λ _. ⊤) keeper big cause → status_of (of_cause cause) ≡ 5 → keeper
  keeper_failed keeper big causes.Done is five = absurd is
  keeper_failed keeper big causes.Stopped is five = absurd is
  keeper_failed keeper big (causes.Input a) is five = absurd (cc)
  keeper_failed keeper big causes.Keeper is five = is
  keeper_failed keeper big causes.Link is five = absurd (cc)
  keeper_failed keeper big (causes.LongLine a) is five = absurd (cc)
  keeper_failed keeper big (causes.BigSource a) is five = absurd (cc)
  keeper_failed keeper big causes.BigImage is five = absurd (cc)
  keeper_failed keeper big (causes.OverCredit channel received announced) is five = absurd (cc)
  keeper_failed keeper big (causes.Peer fault) is five = absurd (cc)
  keeper_failed keeper big causes.Memory is five = absurd (cc)

-- no cause has the status of an output fault
pub no_output : (cause : Cause) → status_of (of_cause cause) ≡ 7 → ⊥
no_output causes.Done seven = cc
no_output causes.Stopped seven = cc
no_output (causes.Input a) seven = cc
no_output causes.Keeper seven = cc
no_output causes.Link seven = cc
no_output (causes.LongLine a) seven = cc
no_output (causes.BigSource a) seven = cc
no_output causes.BigImage seven = cc
no_output (causes.OverCredit channel received announced) seven = cc
no_output (causes.Peer fault) seven = cc
no_output causes.Memory seven = cc

-- a fault of a source is one of the run
pub of_sources : (job : Job) (every : Option ℕ) (contents : List ℕ → Option (List ℕ)) (kept keeps : Option (List KeptImage)) (fault : Fault) → IsSourceFault job contents fault → IsRunFault job every contents kept keeps fault
of_sources job every contents kept keeps (variants.SourceInput a) is = is
of_sources job every contents kept keeps (variants.LongLine a) is = is
of_sources job every contents kept keeps (variants.BigSource a) is = is
of_sources job every contents kept keeps variants.Memory is = tt
of_sources job every contents kept keeps (variants.Usage kind) is = absurd is
of_sources job every contents kept keeps (variants.JobLine line kind) is = absurd is
of_sources job every contents kept keeps (variants.ScriptLine line) is = absurd is
of_sources job every contents kept keeps variants.JobInput is = absurd is
of_sources job every contents kept keeps variants.ScriptInput is = absurd is
of_sources job every contents kept keeps variants.Keeper is = tt
of_sources job every contents kept keeps variants.Output is = absurd is
of_sources job every contents kept keeps (variants.HoldsImage number) is = absurd is
of_sources job every contents kept keeps variants.HoldsNoImage is = absurd is
of_sources job every contents kept keeps (variants.NotImage number place) is = absurd is
of_sources job every contents kept keeps variants.LongJob is = absurd is
of_sources job every contents kept keeps variants.LongScript is = absurd is
of_sources job every contents kept keeps variants.BigImage is = absurd is
of_sources job every contents kept keeps (variants.TooFewSegments have need) is = absurd is
of_sources job every contents kept keeps variants.Link is = absurd is
of_sources job every contents kept keeps (variants.OverCredit channel received announced) is = absurd is
of_sources job every contents kept keeps (variants.Peer fault) is = absurd is
