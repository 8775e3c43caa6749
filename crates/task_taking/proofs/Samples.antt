-- What a gate of the tests tells, as it gives one item after another.
use Rattle.std.proofs.Common.{◌≡◌, ◌≢◌, ℕ, suc, ◌+◌, ◌<◌, ◌≤◌, Bool, true, false, cond, eqb, List, [], ◌∷◌, ◌++◌, length, take, get_or, refl, sym, ap, subst, ◌∙◌, append-nil, eq-eqb, ne_eqb, arith}
use Rattle.std.proofs.lemmas.List.{take_more}
use Rattle.std.specs.Prelude.{slice_get}
use Rattle.std.specs.Option.{option_map_or}
use Rattle.flow_defs.specs.Items.{Items}
use Rattle.flow_defs.specs.declared.job.Exchange.TheVariants.{Hash}
use Rattle.flow_defs.specs.declared.job.Stage.{Stage}
use Rattle.flow_defs.specs.declared.job.Job.{Job}
use Rattle.flow_defs.specs.declared.task.BarrierKind.{BarrierKind}
use Rattle.flow_defs.specs.declared.task.BarrierKind.TheVariants.{Inline}
use Rattle.flow_defs.specs.Jobs.{tasks}
use Rattle.flow_defs.specs.Records.{IsShort}
use Rattle.record_writer.specs.Writers.{ways, ways_into}
use Rattle.channel_cut.specs.Cuts.{Cut, InLine}
use Rattle.gate_account.specs.Accounts.{inlines, IsNew, Resumed}
use Rattle.gate_account.proofs.InStep.{append_inlines}
use Rattle.input_gate.specs.Gates.{GaveItem}
use Rattle.input_gate.specs.declared.gate.GateItem.{GateItem}
use Rattle.input_gate.specs.declared.gate.GateItem.TheVariants as items
use Rattle.task_taking.specs.Samples.{lines_by, barriers_by, resumed_by, account_of}

lines-append : (given more : List GateItem) (c : ℕ) → lines_by (given ++ more) c ≡ lines_by given c ++ lines_by more c
lines-append [] more c = refl
lines-append (items.Line a line ∷ given) more c =
    elim (eqb a c) as (λ b. cond b (line.items ∷ lines_by (given ++ more) c) (lines_by (given ++ more) c) ≡ cond b (line.items ∷ lines_by given c) (lines_by given c) ++ lines_by more c) [
      | true ↦ ap (λ (l : List (List ℕ)). line.items ∷ l) (lines-append given more c)
      | false ↦ lines-append given more c
    ]
lines-append (items.Barrier a k kind ∷ given) more c = lines-append given more c
lines-append (items.AllEnded ∷ given) more c = lines-append given more c

barriers-append : (given more : List GateItem) (c : ℕ) → barriers_by (given ++ more) c ≡ barriers_by given c ++ barriers_by more c
barriers-append [] more c = refl
barriers-append (items.Line a line ∷ given) more c = barriers-append given more c
barriers-append (items.Barrier a k kind ∷ given) more c =
    elim (eqb a c) as (λ b. cond b ((k, Inline) ∷ barriers_by (given ++ more) c) (barriers_by (given ++ more) c) ≡ cond b ((k, Inline) ∷ barriers_by given c) (barriers_by given c) ++ barriers_by more c) [
      | true ↦ ap (λ (l : List (ℕ × BarrierKind)). (k, Inline) ∷ l) (barriers-append given more c)
      | false ↦ barriers-append given more c
    ]
barriers-append (items.AllEnded ∷ given) more c = barriers-append given more c

-- all barriers are inline
all_inline : (given : List GateItem) (c : ℕ) → length (barriers_by given c) ≡ inlines (barriers_by given c)
all_inline [] c = refl
all_inline (items.Line a line ∷ given) c = all_inline given c
all_inline (items.Barrier a k kind ∷ given) c =
    elim (eqb a c) as (λ b. length (cond b ((k, Inline) ∷ barriers_by given c) (barriers_by given c)) ≡ inlines (cond b ((k, Inline) ∷ barriers_by given c) (barriers_by given c))) [ true ↦ ap suc (all_inline given c) | false ↦ all_inline given c ]
all_inline (items.AllEnded ∷ given) c = all_inline given c

module _ (given : List GateItem) (first second : ℕ) (over : Bool) (c : ℕ) (within : c < 2) (free : inlines (barriers_by given c) ≡ resumed_by first second c) where
  pub line_given : (shows : ℕ → Cut → Type 0) (hold : Bool) (line copy : Items ℕ) → copy.items ≡ line.items → IsShort line.items → GaveItem (account_of given first second over) (account_of (given ++ items.Line c copy ∷ []) first second over) shows hold (items.Line c line)
  line_given shows hold line copy same short = (
    short,
    record {
      within = within;
      was_free = free;
      lines_here = lines-append given (items.Line c copy ∷ []) c ∙ ap (λ t. lines_by given c ++ cond t (copy.items ∷ []) []) (eq-eqb c c refl) ∙ ap (λ (l : List ℕ). lines_by given c ++ l ∷ []) same;
      lines_elsewhere = λ d other. lines-append given (items.Line c copy ∷ []) d ∙ ap (λ t. lines_by given d ++ cond t (copy.items ∷ []) []) (ne_eqb c d (λ e. other (sym e))) ∙ append-nil (lines_by given d);
      barriers_here = barriers-append given (items.Line c copy ∷ []) c;
      barriers_elsewhere = λ d other. barriers-append given (items.Line c copy ∷ []) d ∙ append-nil (barriers_by given d);
      resumed = λ d. refl;
    },
  )

  pub barrier_given : (shows : ℕ → Cut → Type 0) (hold : Bool) (k : ℕ) → shows c (InLine k (lines_by given c)) → k ≡ suc (inlines (barriers_by given c)) → (hold ≡ true → (d : ℕ) × (d < 2) × (k ≤ inlines (barriers_by given d))) →
      GaveItem (account_of given first second over) (account_of (given ++ items.Barrier c k Inline ∷ []) first second over) shows hold (items.Barrier c k Inline)
  barrier_given shows hold k cut next held = (
    record { number = next ∙ ap suc (sym (all_inline given c)); held = λ is. let h = held is in (h.0, h.1, subst (λ n. k ≤ n) (sym (all_inline given h.0)) h.2) },
    record {
      within = within;
      was_free = free;
      lines_here = lines-append given (items.Barrier c k Inline ∷ []) c;
      lines_elsewhere = λ d other. lines-append given (items.Barrier c k Inline ∷ []) d ∙ append-nil (lines_by given d);
      barriers_here = barriers-append given (items.Barrier c k Inline ∷ []) c ∙ ap (λ t. barriers_by given c ++ cond t ((k, Inline) ∷ []) []) (eq-eqb c c refl);
      barriers_elsewhere = λ d other. barriers-append given (items.Barrier c k Inline ∷ []) d ∙ ap (λ t. barriers_by given d ++ cond t ((k, Inline) ∷ []) []) (ne_eqb c d (λ e. other (sym e))) ∙ append-nil (barriers_by given d);
      resumed = λ d. refl;
    },
    (refl, cut),
  )

module _ (given : List GateItem) (first second : ℕ) (over : Bool) (n c : ℕ) (is : n ≡ suc (resumed_by first second c)) where
  pub first_resumed : c ≡ 0 → Resumed (account_of given first second over) (account_of given n second over) c
  first_resumed none = record {
    lines = λ d. refl;
    barriers = λ d. refl;
    here = ap (resumed_by n second) none ∙ is;
    elsewhere = λ d other.
        ap (λ t. cond t n (cond (eqb d 1) second 0)) (ne_eqb d 0 (λ e. other (e ∙ sym none))) ∙ sym (ap (λ t. cond t first (cond (eqb d 1) second 0)) (ne_eqb d 0 (λ e. other (e ∙ sym none))));
    ended = λ d. refl;
    left = λ d. refl;
  }

  pub second_resumed : c < 2 → c ≢ 0 → Resumed (account_of given first second over) (account_of given first n over) c
  second_resumed within some =
      let one : c ≡ 1 = omega (arith, within, some) in
      record {
        lines = λ d. refl;
        barriers = λ d. refl;
        here = ap (resumed_by first n) one ∙ is;
        elsewhere = λ d other.
            ap (λ t. cond (eqb d 0) first (cond t n 0)) (ne_eqb d 1 (λ e. other (e ∙ sym one))) ∙ sym (ap (λ t. cond (eqb d 0) first (cond t second 0)) (ne_eqb d 1 (λ e. other (e ∙ sym one))));
        ended = λ d. refl;
        left = λ d. refl;
      }

-- ---- how many barriers

pub barrier_weight : (a c k : ℕ) (kind : BarrierKind) → a ≡ c → inlines (barriers_by (items.Barrier a k kind ∷ []) c) ≡ 1
barrier_weight a c k kind same = ap (λ t. inlines (cond t ((k, Inline) ∷ []) [])) (eq-eqb a c same)

pub other_weight : (a c k : ℕ) (kind : BarrierKind) → a ≢ c → inlines (barriers_by (items.Barrier a k kind ∷ []) c) ≡ 0
other_weight a c k kind other = ap (λ t. inlines (cond t ((k, Inline) ∷ []) [])) (ne_eqb a c other)

pub line_weight : (a c : ℕ) (line : Items ℕ) → inlines (barriers_by (items.Line a line ∷ []) c) ≡ 0
line_weight a c line = refl

pub counted_more : (given : List GateItem) (i c n w : ℕ) (x : GateItem) → i < length given → x ≡ get_or given i x → n ≡ inlines (barriers_by (take i given) c) → w ≡ inlines (barriers_by (x ∷ []) c) → n + w ≡ inlines (barriers_by (take (i + 1) given) c)
counted_more given i c n w x within is old one =
    ap (λ m. m + w) old ∙ ap (λ m. inlines (barriers_by (take i given) c) + m) one
    ∙ sym (ap (λ l. inlines (barriers_by l c)) (take_more given i x within) ∙ ap (λ (y : GateItem). inlines (barriers_by (take i given ++ y ∷ []) c)) (sym is)
    ∙ ap inlines (barriers-append (take i given) (x ∷ []) c) ∙ append_inlines (barriers_by (take i given) c) (barriers_by (x ∷ []) c))

pub first_free : (first second n s c : ℕ) → c ≡ 0 → n ≡ s → n ≡ first → (c < 2) × (s ≡ resumed_by first second c)
first_free first second n s c none is all = (omega (arith, none), sym is ∙ all ∙ sym (ap (resumed_by first second) none))

pub second_free : (first second n s c : ℕ) → c ≡ 1 → n ≡ s → n ≡ second → (c < 2) × (s ≡ resumed_by first second c)
second_free first second n s c one is all = (omega (arith, one), sym is ∙ all ∙ sym (ap (resumed_by first second) one))

-- ---- at the start

zero_either : (t : Bool) (n : ℕ) → n ≡ 0 → cond t 0 n ≡ 0
zero_either true n is = refl
zero_either false n is = is

pub new_account : (given : List GateItem) (first second : ℕ) (over : Bool) → given ≡ [] → first ≡ 0 → second ≡ 0 → over ≡ false → IsNew (λ c. []) (account_of given first second over)
new_account given first second over none a b off = subst (λ (l : List GateItem). IsNew (λ c. []) (account_of l first second over)) (sym none) (subst (λ n. IsNew (λ c. []) (account_of [] n second over)) (sym a) (subst (λ n. IsNew (λ c. []) (account_of [] 0 n over)) (sym b) (subst (λ o. IsNew (λ c. []) (account_of [] 0 0 o)) (sym off) (record {
  lines = λ c. refl;
  barriers = λ c. refl;
  resumed = λ c. zero_either (eqb c 0) (cond (eqb c 1) 0 0) (zero_either (eqb c 1) 0 refl);
  ended = λ c. refl;
  left = λ c. refl;
}))))

pub two_ways : (job : Job) → job.stages.items ≡ [] → tasks job 0 ≡ 2 → 2 ≡ ways_into job 0
two_ways job none two = sym (ap (λ (l : List Stage). ways (option_map_or (λ (s : Stage). s.exchange) (slice_get l 0) Hash) (tasks job 0)) none ∙ two)
