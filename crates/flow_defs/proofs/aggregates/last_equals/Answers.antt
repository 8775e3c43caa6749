use Rattle.std.proofs.Common.{◌≡◌, ℕ, suc, List, ◌+◌, length, take, drop, subst, ap, sym, ◌∙◌, arith}
use Rattle.std.specs.Prelude.{Option, Some, None}
use Rattle.std.specs.Option.{option_map}
use Rattle.memchr.specs.Find.{IsLastByte, Nowhere, Passes, is_byte}
use Rattle.flow_defs.specs.Aggregates.{parted}
use Rattle.flow_defs.proofs.PartLemmas.{not_parted, parted_at}
use Rattle.flow_defs.proofs.aggregates.last_equals.Goals as goal

parted_by : (bytes : List ℕ) (found : Option ℕ) → IsLastByte (is_byte 61) bytes found → parted bytes ≡ option_map (λ place. (take place bytes, drop (place + 1) bytes)) found
parted_by bytes None nowhere = not_parted bytes nowhere
parted_by bytes (Some k) last =
    let next : k + 1 ≡ suc k = omega arith in
    parted_at bytes k last.0.high (subst (λ j. Nowhere (Passes (is_byte 61) bytes) j (length bytes)) next last.0.after) last.1
    ∙ ap (λ j. Some (take k bytes, drop j bytes)) (sym next)

pub returns-clause-parts : goal.returns-clause-parts
returns-clause-parts c = parted_by c.args.line.now c.memrchr.result c.memrchr.ensures
