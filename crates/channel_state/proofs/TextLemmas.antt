-- The text of an image's job.
use Rattle.std.proofs.Common.{◌≡◌, ℕ, suc, ◌<◌, ◌≤◌, Bool, true, false, eqb, List, Some, None, Option, Result, Ok, Err, refl, sym, ap, ◌∙◌}
use Rattle.std.specs.Prelude.{is_ok, is_none, nat_le, codes, IfOk, IfErr}
use Rattle.std.specs.Int.{w64}
use Rattle.std.proofs.lemmas.Bool.{and_parts}
use Rattle.job_text.specs.declared.fault.JobFault.{JobFault}
use Rattle.job_text.specs.declared.fault.JobReadFault.{JobReadFault}
use Rattle.job_text.specs.declared.fault.JobReadFault.TheVariants as read
use Rattle.job_text.specs.KnownKinds.{every_kind}
use Rattle.job_text.specs.JobFaults.{first_fault}
use Rattle.job_text.specs.Reading.{IsTold}
use Rattle.job_text.specs.Shapes.{Shape, IsShapeOf, said, job_of}
use Rattle.job_text.proofs.Law.{accepted}
use Rattle.job_text.proofs.ShapeLemmas.{says_shape}
use Rattle.channel_state.specs.Reading.{Reading, Passing, ◌>>=◌, byte, flag, number, piece, mark, tested}
use Rattle.channel_state.specs.ImageFaults.{is_text, body, image}
use Rattle.channel_state.proofs.FieldLemmas.{tested_ok}

-- a shape is read off a text exactly where the text has no fault
pub text_read : (text : List ℕ) (r : Result Shape JobReadFault) → IfOk r (IsShapeOf text) → IfErr r (λ told. IsTold told (first_fault every_kind text)) → is_ok r ≡ is_none (first_fault every_kind text)
text_read text (Ok shape) is told = sym (ap is_none (accepted every_kind text is.job is.job_text))
text_read text (Err (read.Line number kind)) is told = sym (ap is_none told)
text_read text (Err read.Memory) is told = absurd told

shape_said : (text : List ℕ) (shape : Shape) → IsShapeOf text shape → said text ≡ shape
shape_said text shape is = says_shape every_kind text is.job is.job_text ∙ sym is.shape_is

none_some : (fault : Option (ℕ × JobFault)) (told : JobReadFault) → is_none fault ≡ true → IsTold told fault → ⊥
none_some fault (read.Line number kind) none told = let no : false ≡ true = sym (ap is_none told) ∙ none in cc
none_some fault read.Memory none told = told

-- an image is passed once what stands before its parts is
pub image_passed : (bytes r0 r1 r2 r3 r4 : List ℕ) (v n : ℕ) (last : Bool) (text : List ℕ) (shape : Shape) → mark (codes "FLWI") bytes ≡ Ok r0 → tested (λ version. eqb version 1) byte r0 ≡ Ok (v, r1) → tested (nat_le 1) (number w64) r1 ≡ Ok (n, r2)
    → flag r2 ≡ Ok (last, r3) → tested is_text piece r3 ≡ Ok (text, r4) → IsShapeOf text shape → body (job_of shape) last r4 ≡ image bytes
unfolding image
image_passed bytes r0 r1 r2 r3 r4 v n last text shape marked version numbered flagged texted is =
    let then_text = λ (last : Bool × List ℕ). tested is_text piece last.1 >>= λ text. body (job_of (said text.0)) last.0 text.1 in
    let then_flag = λ (number : ℕ × List ℕ). flag number.1 >>= then_text in
    let then_number = λ (version : ℕ × List ℕ). tested (nat_le 1) (number w64) version.1 >>= then_flag in
    let then_version = λ (bytes : List ℕ). tested (λ version. eqb version 1) byte bytes >>= then_number in
    sym (ap (λ (r : Passing). r >>= then_version) marked
    ∙ ap (λ (r : Reading ℕ). r >>= then_number) version
    ∙ ap (λ (r : Reading ℕ). r >>= then_flag) numbered
    ∙ ap (λ (r : Reading Bool). r >>= then_text) flagged
    ∙ ap (λ (r : Reading (List ℕ)). r >>= λ text. body (job_of (said text.0)) last text.1) texted
    ∙ ap (λ s. body (job_of s) last r4) (shape_said text shape is))

-- a text that passes has a shape
pub no_shape : (r3 r4 text : List ℕ) (told : JobReadFault) → tested is_text piece r3 ≡ Ok (text, r4) → IsTold told (first_fault every_kind text) → ⊥
no_shape r3 r4 text told texted is = none_some (first_fault every_kind text) told (and_parts _ _ (tested_ok is_text piece r3 (text, r4) texted).1).1 is
