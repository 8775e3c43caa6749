-- Data and barriers in one line.
use Rattle.std.proofs.Common.{◌≡◌, ℕ, zero, suc, ◌+◌, ◌-◌, ◌<◌, ◌≤◌, Bool, true, false, not, cond, eqb, List, [], ◌∷◌, ◌++◌, map, length, take, drop, Option, Some, None, refl, sym, ap, ◌∙◌, append_assoc, append-nil, arith, length-append, length-drop, true≢false, get_or}
use Rattle.std.specs.Prelude.{slice_get, count_by}
use mir.Val.{bool_byte}
use Rattle.circular_buffer.specs.Buffer.{keep_last}
use Rattle.std.proofs.lemmas.List.{take-append-le, drop-append-le, take-append-drop, map-append, drop_all}
use Rattle.std.proofs.lemmas.Option.{same_Some}
use Rattle.std.proofs.Math.Seq.{take-add, drop-nil}
use Rattle.flow_defs.specs.declared.task.BarrierKind.{BarrierKind}
use Rattle.flow_defs.specs.declared.task.BarrierKind.TheVariants.{Inline, Front}
use Rattle.flow_defs.specs.declared.parcel.Parcel.{Parcel}
use Rattle.flow_defs.specs.declared.parcel.Parcel.TheVariants.{Data, Barrier, End}
use Rattle.flow_defs.specs.Parcels.{barriers_of}
use Rattle.input_channel.specs.declared.held.HeldBuf.{HeldBuf}
use Rattle.input_channel.specs.declared.queue.Mark.{Mark}
use Rattle.input_channel.specs.Contents.{content}
use Rattle.input_channel.specs.Inboxes.{Arrived, WasPolled, Waits, front_waits, first_barrier, first_parcel, poll_barrier, poll_first, due, poll_due, is_barrier, waiting, parcel_of, waiting_before}
use Rattle.input_channel.specs.States.{from_waiting}
use Rattle.input_channel.specs.Lines.{Line, waiting_data, first_gap, merged, before_last, one_less, kinds_of, contents, HaveGone, StartsWithData}
use Rattle.input_channel.proofs.CountLemmas.{count-cons}

drop-add : {A : Type 0} (n m : ℕ) (xs : List A) → drop (n + m) xs ≡ drop m (drop n xs)
drop-add zero m xs = ap (λ k. drop k xs) (Rattle.std.proofs.Common.zero-add m)
drop-add (suc n) m [] = drop-nil (suc n + m) ∙ sym (ap (drop m) (drop-nil (suc n)) ∙ drop-nil m)
drop-add (suc n) m (x ∷ xs) = ap (λ k. drop k (x ∷ xs)) (let e : suc n + m ≡ suc (n + m) = omega arith in e) ∙ drop-add n m xs

take_all : {A : Type 0} (n : ℕ) (xs : List A) → length xs ≤ n → take n xs ≡ xs
take_all n xs low = sym (append-nil (take n xs)) ∙ ap (λ ys. take n xs ++ ys) (sym (drop_all n xs low)) ∙ take-append-drop n xs

-- ---- lists by their first item

pub head-cons : {A : Type 0} (xs : List A) (x : A) → 0 < length xs → x ≡ get_or xs 0 x → xs ≡ x ∷ drop 1 xs
head-cons [] x some e = absurd (omega (arith, some))
head-cons (y ∷ ys) x some e = ap (λ z. z ∷ ys) (sym e)

pub get-cons : {A : Type 0} (xs : List A) (x : A) → slice_get xs 0 ≡ Some x → xs ≡ x ∷ drop 1 xs
get-cons {A = A} [] x e = absurd (no x e)
  where
    no : (x : A) → ◌≡◌ {A = Option A} None (Some x) → ⊥
    no x e = cc
get-cons {A = A} (y ∷ ys) x e = ap (λ z. z ∷ ys) (same_Some y x e)

pub get-nil : {A : Type 0} (xs : List A) → slice_get xs 0 ≡ None → xs ≡ []
get-nil {A = A} [] e = refl
get-nil {A = A} (y ∷ ys) e = absurd (no y e)
  where
    no : (x : A) → ◌≡◌ {A = Option A} (Some x) None → ⊥
    no x e = cc

pub none-nil : {A : Type 0} (xs : List A) → (0 < length xs → ⊥) → xs ≡ []
none-nil [] none = refl
none-nil (y ∷ ys) none = absurd (none (omega arith))

-- by the item at a place
pub place-cons : {A : Type 0} (n : ℕ) (xs : List A) (x : A) → n < length xs → x ≡ get_or xs n x → drop n xs ≡ x ∷ drop (n + 1) xs
place-cons zero xs x some e = head-cons xs x some e
place-cons (suc n) [] x some e = absurd (omega (arith, some))
place-cons (suc n) (y ∷ ys) x some e = place-cons n ys x (omega (arith, some)) e ∙ ap (λ k. x ∷ drop k (y ∷ ys)) (let e : suc (n + 1) ≡ suc n + 1 = omega arith in e)

pub place-nil : {A : Type 0} (n : ℕ) (xs : List A) → (n < length xs → ⊥) → drop n xs ≡ []
place-nil zero xs none = none-nil xs none
place-nil (suc n) [] none = drop-nil (suc n)
place-nil (suc n) (y ∷ ys) none = place-nil n ys (λ some. none (omega (arith, some)))

pub same_line : (p q : List Arrived) (b d : List HeldBuf) (m n : ℕ) → p ≡ q → b ≡ d → m ≡ n → ◌≡◌ {A = Line} (record { arrived = p; buffers = b; room = m }) (record { arrived = q; buffers = d; room = n })
same_line p q b d m n e f g = cc

-- ---- what is added

behind_some : (xs ys zs : List Arrived) (x y : Arrived) → ys ≡ zs ++ y ∷ [] → xs ++ x ∷ ys ≡ (xs ++ x ∷ zs) ++ y ∷ []
behind_some xs ys zs x y e = ap (λ l. xs ++ x ∷ l) e ∙ sym (append_assoc xs (x ∷ zs) (y ∷ []))

pub merged_data : (polled : ℕ) (marks : List Mark) (buffers : List HeldBuf) (buf : HeldBuf) → before_last marks ≤ length buffers →
    merged polled marks (buffers ++ buf ∷ []) ≡ merged polled marks buffers ++ Waits (Data (content buf)) ∷ []
merged_data polled [] buffers buf low = map-append (λ b. Waits (Data (content b))) buffers (buf ∷ [])
merged_data zero (m ∷ marks) buffers buf low =
    let here : m.gap ≤ length buffers = omega (arith, low) in
    let rest : before_last marks ≤ length (drop m.gap buffers) = omega (arith, low, length-drop m.gap buffers) in
    ap (λ bs. waiting_data bs ++ Waits (Barrier m.k m.kind) ∷ merged zero marks (drop m.gap (buffers ++ buf ∷ []))) (take-append-le m.gap buffers (buf ∷ []) here)
    ∙ behind_some (waiting_data (take m.gap buffers)) (merged zero marks (drop m.gap (buffers ++ buf ∷ []))) (merged zero marks (drop m.gap buffers)) (Waits (Barrier m.k m.kind)) (Waits (Data (content buf)))
    (ap (merged zero marks) (drop-append-le m.gap buffers (buf ∷ []) here) ∙ merged_data zero marks (drop m.gap buffers) buf rest)
merged_data (suc polled) (m ∷ marks) buffers buf low =
    let here : m.gap ≤ length buffers = omega (arith, low) in
    let rest : before_last marks ≤ length (drop m.gap buffers) = omega (arith, low, length-drop m.gap buffers) in
    ap (λ bs. waiting_data bs ++ WasPolled (Barrier m.k m.kind) ∷ merged polled marks (drop m.gap (buffers ++ buf ∷ []))) (take-append-le m.gap buffers (buf ∷ []) here)
    ∙ behind_some (waiting_data (take m.gap buffers)) (merged polled marks (drop m.gap (buffers ++ buf ∷ []))) (merged polled marks (drop m.gap buffers)) (WasPolled (Barrier m.k m.kind)) (Waits (Data (content buf)))
    (ap (merged polled marks) (drop-append-le m.gap buffers (buf ∷ []) here) ∙ merged_data polled marks (drop m.gap buffers) buf rest)

pub merged_barrier : (polled : ℕ) (marks : List Mark) (mark : Mark) (buffers : List HeldBuf) → polled ≤ length marks → before_last marks + mark.gap ≡ length buffers →
    merged polled (marks ++ mark ∷ []) buffers ≡ merged polled marks buffers ++ Waits (Barrier mark.k mark.kind) ∷ []
merged_barrier zero [] mark buffers few counted =
    let all : length buffers ≤ mark.gap = omega (arith, counted) in
    ap (λ bs. waiting_data bs ++ Waits (Barrier mark.k mark.kind) ∷ waiting_data (drop mark.gap buffers)) (take_all mark.gap buffers all)
    ∙ ap (λ bs. waiting_data buffers ++ Waits (Barrier mark.k mark.kind) ∷ waiting_data bs) (drop_all mark.gap buffers all)
merged_barrier (suc polled) [] mark buffers few counted = absurd (omega (arith, few))
merged_barrier zero (m ∷ marks) mark buffers few counted =
    let rest : before_last marks + mark.gap ≡ length (drop m.gap buffers) = omega (arith, counted, length-drop m.gap buffers) in
    behind_some (waiting_data (take m.gap buffers)) (merged zero (marks ++ mark ∷ []) (drop m.gap buffers)) (merged zero marks (drop m.gap buffers)) (Waits (Barrier m.k m.kind)) (Waits (Barrier mark.k mark.kind))
    (merged_barrier zero marks mark (drop m.gap buffers) (omega arith) rest)
merged_barrier (suc polled) (m ∷ marks) mark buffers few counted =
    let rest : before_last marks + mark.gap ≡ length (drop m.gap buffers) = omega (arith, counted, length-drop m.gap buffers) in
    behind_some (waiting_data (take m.gap buffers)) (merged polled (marks ++ mark ∷ []) (drop m.gap buffers)) (merged polled marks (drop m.gap buffers)) (WasPolled (Barrier m.k m.kind)) (Waits (Barrier mark.k mark.kind))
    (merged_barrier polled marks mark (drop m.gap buffers) (omega (arith, few)) rest)

pub before_last-more : (marks : List Mark) (mark : Mark) → before_last (marks ++ mark ∷ []) ≡ before_last marks + mark.gap
before_last-more [] mark = omega arith
before_last-more (m ∷ marks) mark = let rest = before_last-more marks mark in omega (arith, rest)

pub first_gap-more : (marks : List Mark) (mark : Mark) → 0 < first_gap marks → 0 < first_gap (marks ++ mark ∷ [])
first_gap-more [] mark some = absurd (omega (arith, some))
first_gap-more (m ∷ marks) mark some = some

-- ---- what waits

front_waits-data : (buffers : List HeldBuf) (xs : List Arrived) → front_waits (waiting (waiting_data buffers ++ xs)) ≡ front_waits (waiting xs)
front_waits-data [] xs = refl
front_waits-data (b ∷ buffers) xs = front_waits-data buffers xs

front_waits-only : (buffers : List HeldBuf) → front_waits (waiting (waiting_data buffers)) ≡ false
front_waits-only [] = refl
front_waits-only (b ∷ buffers) = front_waits-only buffers

first_barrier-data : (buffers : List HeldBuf) (xs : List Arrived) → first_barrier (waiting (waiting_data buffers ++ xs)) ≡ first_barrier (waiting xs)
first_barrier-data [] xs = refl
first_barrier-data (b ∷ buffers) xs = first_barrier-data buffers xs

first_barrier-only : (buffers : List HeldBuf) → first_barrier (waiting (waiting_data buffers)) ≡ None
first_barrier-only [] = refl
first_barrier-only (b ∷ buffers) = first_barrier-only buffers

abbrev pub is_front : BarrierKind → Bool
is_front Inline = false
is_front Front = true

-- the first of these barriers is the first one that waits
abbrev pub is_front_first : List Mark → Bool
is_front_first [] = false
is_front_first (m ∷ marks) = is_front m.kind

abbrev pub first_mark : List Mark → Option Parcel
first_mark [] = None
first_mark (m ∷ marks) = Some (Barrier m.k m.kind)

front_barrier : (k : ℕ) (kind : BarrierKind) (ps : List Parcel) → front_waits (Barrier k kind ∷ ps) ≡ is_front kind
front_barrier k Inline ps = refl
front_barrier k Front ps = refl

pub front_merged : (polled : ℕ) (marks : List Mark) (buffers : List HeldBuf) → front_waits (waiting (merged polled marks buffers)) ≡ is_front_first (drop polled marks)
front_merged zero [] buffers = front_waits-only buffers
front_merged (suc polled) [] buffers = front_waits-only buffers ∙ sym (ap is_front_first (drop-nil {A = Mark} (suc polled)))
front_merged zero (m ∷ marks) buffers =
    front_waits-data (take m.gap buffers) (Waits (Barrier m.k m.kind) ∷ merged zero marks (drop m.gap buffers)) ∙ front_barrier m.k m.kind (waiting (merged zero marks (drop m.gap buffers)))
front_merged (suc polled) (m ∷ marks) buffers =
    front_waits-data (take m.gap buffers) (WasPolled (Barrier m.k m.kind) ∷ merged polled marks (drop m.gap buffers)) ∙ front_merged polled marks (drop m.gap buffers)

pub first_merged : (polled : ℕ) (marks : List Mark) (buffers : List HeldBuf) → first_barrier (waiting (merged polled marks buffers)) ≡ first_mark (drop polled marks)
first_merged zero [] buffers = first_barrier-only buffers
first_merged (suc polled) [] buffers = first_barrier-only buffers ∙ sym (ap first_mark (drop-nil {A = Mark} (suc polled)))
first_merged zero (m ∷ marks) buffers = first_barrier-data (take m.gap buffers) (Waits (Barrier m.k m.kind) ∷ merged zero marks (drop m.gap buffers))
first_merged (suc polled) (m ∷ marks) buffers =
    first_barrier-data (take m.gap buffers) (WasPolled (Barrier m.k m.kind) ∷ merged polled marks (drop m.gap buffers)) ∙ first_merged polled marks (drop m.gap buffers)

-- ---- what stands first

-- data, where some stand before the first barrier
one_before : (n : ℕ) → 0 < n → n ≡ suc (n - 1)
one_before n some = omega (arith, some)

pub data_first : (polled : ℕ) (marks : List Mark) (buf : HeldBuf) (buffers : List HeldBuf) → 0 < first_gap marks →
    merged polled marks (buf ∷ buffers) ≡ Waits (Data (content buf)) ∷ merged polled (one_less marks) buffers
data_first polled [] buf buffers some = refl
data_first zero (m ∷ marks) buf buffers some =
    ap (λ g. waiting_data (take g (buf ∷ buffers)) ++ Waits (Barrier m.k m.kind) ∷ merged zero marks (drop g (buf ∷ buffers))) (one_before m.gap some)
data_first (suc polled) (m ∷ marks) buf buffers some =
    ap (λ g. waiting_data (take g (buf ∷ buffers)) ++ WasPolled (Barrier m.k m.kind) ∷ merged polled marks (drop g (buf ∷ buffers))) (one_before m.gap some)

-- and where no barrier stands
pub data_only : (polled : ℕ) (buf : HeldBuf) (buffers : List HeldBuf) → merged polled [] (buf ∷ buffers) ≡ Waits (Data (content buf)) ∷ merged polled [] buffers
data_only polled buf buffers = refl

-- a barrier, where no data stand before it
pub barrier_first : (m : Mark) (marks : List Mark) (buffers : List HeldBuf) → m.gap ≡ 0 → merged 0 (m ∷ marks) buffers ≡ Waits (Barrier m.k m.kind) ∷ merged 0 marks buffers
barrier_first m marks buffers none = ap (λ g. waiting_data (take g buffers) ++ Waits (Barrier m.k m.kind) ∷ merged 0 marks (drop g buffers)) none

pub polled_first : (polled : ℕ) (m : Mark) (marks : List Mark) (buffers : List HeldBuf) → m.gap ≡ 0 → merged (suc polled) (m ∷ marks) buffers ≡ WasPolled (Barrier m.k m.kind) ∷ merged polled marks buffers
polled_first polled m marks buffers none = ap (λ g. waiting_data (take g buffers) ++ WasPolled (Barrier m.k m.kind) ∷ merged polled marks (drop g buffers)) none

-- so the line starts with one that waits
pub starts_merged : (polled : ℕ) (marks : List Mark) (buffers : List HeldBuf) → (0 < polled → 0 < first_gap marks) → before_last marks ≤ length buffers → from_waiting (merged polled marks buffers) ≡ merged polled marks buffers
starts_merged polled [] [] ahead low = refl
starts_merged polled [] (b ∷ buffers) ahead low = refl
starts_merged zero (m ∷ marks) buffers ahead low = at m.gap buffers
  where
    at : (n : ℕ) (bs : List HeldBuf) → from_waiting (waiting_data (take n bs) ++ Waits (Barrier m.k m.kind) ∷ merged zero marks (drop m.gap buffers)) ≡ waiting_data (take n bs) ++ Waits (Barrier m.k m.kind) ∷ merged zero marks (drop m.gap buffers)
    at zero bs = refl
    at (suc n) [] = refl
    at (suc n) (b ∷ bs) = refl
starts_merged (suc polled) (m ∷ marks) [] ahead low = let some = ahead (omega arith) in absurd (omega (arith, some, low))
starts_merged (suc polled) (m ∷ marks) (b ∷ buffers) ahead low =
    let is = data_first (suc polled) (m ∷ marks) b buffers (ahead (omega arith)) in
    ap from_waiting is ∙ sym is

-- ---- what is due

-- with the first barrier that waits front, it is
pub due_front : (polled : ℕ) (marks rest : List Mark) (m : Mark) (buffers : List HeldBuf) → drop polled marks ≡ m ∷ rest → m.kind ≡ Front → due (waiting (merged polled marks buffers)) ≡ Some (Barrier m.k m.kind)
due_front polled marks rest m buffers split front =
    let ps = waiting (merged polled marks buffers) in
    ap (λ b. cond b (first_barrier ps) (first_parcel ps)) (front_merged polled marks buffers ∙ ap is_front_first split ∙ ap is_front front)
    ∙ first_merged polled marks buffers ∙ ap first_mark split

none_polled : (polled gap : ℕ) → (0 < polled → 0 < gap) → gap ≡ 0 → polled ≡ 0
none_polled zero gap ahead none = refl
none_polled (suc polled) gap ahead none = let some = ahead (omega arith) in absurd (omega (arith, some, none))

-- a barrier with no data before it is due, of either kind
pub due_first : (polled : ℕ) (marks rest : List Mark) (m : Mark) (buffers : List HeldBuf) → (0 < polled → 0 < first_gap marks) → first_gap marks ≡ 0 → drop polled marks ≡ m ∷ rest →
    due (waiting (merged polled marks buffers)) ≡ Some (Barrier m.k m.kind)
due_first polled marks rest m buffers ahead none split =
    let first : polled ≡ 0 = none_polled polled (first_gap marks) ahead none in
    let all : marks ≡ m ∷ rest = sym (ap (λ n. drop n marks) first) ∙ split in
    ap (λ n. due (waiting (merged n marks buffers))) first ∙ ap (λ ms. due (waiting (merged 0 ms buffers))) all
    ∙ ap (λ xs. due (waiting xs)) (barrier_first m rest buffers (sym (ap first_gap all) ∙ none)) ∙ at m.kind
  where
    at : (kind : BarrierKind) → due (Barrier m.k kind ∷ waiting (merged 0 rest buffers)) ≡ Some (Barrier m.k kind)
    at Inline = refl
    at Front = refl

-- data are, where they stand first and no front barrier waits
first_is : (ps : List Parcel) → front_waits ps ≡ false → due ps ≡ first_parcel ps
first_is ps none = ap (λ b. cond b (first_barrier ps) (first_parcel ps)) none

pub due_line : (polled : ℕ) (marks rest : List Mark) (m : Mark) (buffers : List HeldBuf) → 0 < first_gap marks → before_last marks ≤ length buffers → drop polled marks ≡ m ∷ rest → m.kind ≡ Inline →
    is_barrier (due (waiting (merged polled marks buffers))) ≡ false
due_line polled [] rest m buffers some low split line = absurd (omega (arith, some))
due_line polled (n ∷ marks) rest m [] some low split line = absurd (omega (arith, some, low))
due_line polled (n ∷ marks) rest m (b ∷ buffers) some low split line =
    ap is_barrier (first_is (waiting (merged polled (n ∷ marks) (b ∷ buffers))) (front_merged polled (n ∷ marks) (b ∷ buffers) ∙ ap is_front_first split ∙ ap is_front line))
    ∙ ap (λ xs. is_barrier (first_parcel (waiting xs))) (data_first polled (n ∷ marks) b buffers some)

-- no barrier waits
no_barrier_first : (polled : ℕ) (marks : List Mark) (buffers : List HeldBuf) → (0 < polled → 0 < first_gap marks) → before_last marks ≤ length buffers → drop polled marks ≡ [] →
    is_barrier (first_parcel (waiting (merged polled marks buffers))) ≡ false
no_barrier_first polled [] [] ahead low none = refl
no_barrier_first polled [] (b ∷ buffers) ahead low none = refl
no_barrier_first zero (m ∷ marks) buffers ahead low none = absurd (no none)
  where
    no : m ∷ marks ≡ [] → ⊥
    no e = cc
no_barrier_first (suc polled) (m ∷ marks) [] ahead low none = let some = ahead (omega arith) in absurd (omega (arith, some, low))
no_barrier_first (suc polled) (m ∷ marks) (b ∷ buffers) ahead low none = ap (λ xs. is_barrier (first_parcel (waiting xs))) (data_first (suc polled) (m ∷ marks) b buffers (ahead (omega arith)))

pub due_none : (polled : ℕ) (marks : List Mark) (buffers : List HeldBuf) → (0 < polled → 0 < first_gap marks) → before_last marks ≤ length buffers → drop polled marks ≡ [] →
    is_barrier (due (waiting (merged polled marks buffers))) ≡ false
due_none polled marks buffers ahead low none =
    ap is_barrier (first_is (waiting (merged polled marks buffers)) (front_merged polled marks buffers ∙ ap is_front_first none)) ∙ no_barrier_first polled marks buffers ahead low none

-- a front barrier that waits is due
pub front_is_barrier : (ps : List Parcel) → front_waits ps ≡ true → is_barrier (first_barrier ps) ≡ true
front_is_barrier [] e = absurd (true≢false (sym e))
front_is_barrier (Data bytes ∷ ps) e = front_is_barrier ps e
front_is_barrier (Barrier k kind ∷ ps) e = refl
front_is_barrier (End ∷ ps) e = front_is_barrier ps e

pub calm_front : (ps : List Parcel) → is_barrier (due ps) ≡ false → front_waits ps ≡ false
calm_front ps calm =
    elim (front_waits ps) as (λ b. front_waits ps ≡ b → is_barrier (cond b (first_barrier ps) (first_parcel ps)) ≡ false → b ≡ false) [
      | true ↦ λ e h. absurd (true≢false (sym (front_is_barrier ps e) ∙ h))
      | false ↦ λ e h. refl
    ] refl calm

-- ---- a barrier is polled

-- one behind data keeps its place
data-poll_barrier : (buffers : List HeldBuf) (xs : List Arrived) → poll_barrier (waiting_data buffers ++ xs) ≡ waiting_data buffers ++ poll_barrier xs
data-poll_barrier [] xs = refl
data-poll_barrier (b ∷ buffers) xs = ap (λ ys. Waits (Data (content b)) ∷ ys) (data-poll_barrier buffers xs)

pub one_polled : (polled : ℕ) (marks : List Mark) (buffers : List HeldBuf) → polled < length marks → poll_barrier (merged polled marks buffers) ≡ merged (suc polled) marks buffers
one_polled polled [] buffers low = absurd (omega (arith, low))
one_polled zero (m ∷ marks) buffers low = data-poll_barrier (take m.gap buffers) (Waits (Barrier m.k m.kind) ∷ merged zero marks (drop m.gap buffers))
one_polled (suc polled) (m ∷ marks) buffers low =
    data-poll_barrier (take m.gap buffers) (WasPolled (Barrier m.k m.kind) ∷ merged polled marks (drop m.gap buffers))
    ∙ ap (λ ys. waiting_data (take m.gap buffers) ++ WasPolled (Barrier m.k m.kind) ∷ ys) (one_polled polled marks (drop m.gap buffers) (omega (arith, low)))

-- a barrier that is due, with data first, is front and not polled
no_barrier_left : (polled : ℕ) (marks : List Mark) (buffers : List HeldBuf) → front_waits (waiting (merged polled marks buffers)) ≡ true → polled < length marks
no_barrier_left polled marks buffers front = at polled marks (sym (front_merged polled marks buffers) ∙ front)
  where
    at : (n : ℕ) (ms : List Mark) → is_front_first (drop n ms) ≡ true → n < length ms
    at zero [] e = absurd (true≢false (sym e))
    at zero (m ∷ ms) e = omega arith
    at (suc n) [] e = absurd (true≢false (sym e ∙ ap is_front_first (drop-nil {A = Mark} (suc n))))
    at (suc n) (m ∷ ms) e = let low = at n ms e in omega (arith, low)

is_front_due : (polled : ℕ) (marks : List Mark) (buffers : List HeldBuf) → 0 < first_gap marks → before_last marks ≤ length buffers → is_barrier (due (waiting (merged polled marks buffers))) ≡ true →
    front_waits (waiting (merged polled marks buffers)) ≡ true
is_front_due polled [] buffers some low = λ is. absurd (omega (arith, some))
is_front_due polled (m ∷ marks) [] some low = λ is. absurd (omega (arith, some, low))
is_front_due polled (m ∷ marks) (b ∷ buffers) some low =
    let ps = waiting (merged polled (m ∷ marks) (b ∷ buffers)) in
    elim (front_waits ps) as (λ t. is_barrier (cond t (first_barrier ps) (first_parcel ps)) ≡ true → t ≡ true) [
      | true ↦ λ is. refl
      | false ↦ λ is. absurd (true≢false (sym is ∙ ap (λ xs. is_barrier (first_parcel (waiting xs))) (data_first polled (m ∷ marks) b buffers some)))
    ]

pub record IsJumping (polled : ℕ) (marks : List Mark) (buffers : List HeldBuf) : Type 0 where
  pub low : polled < length marks
  pub line : merged (suc polled) marks buffers ≡ from_waiting (poll_due (merged polled marks buffers))

pub barrier_jumps : (polled : ℕ) (marks : List Mark) (buffers : List HeldBuf) → 0 < first_gap marks → before_last marks ≤ length buffers → is_barrier (due (waiting (merged polled marks buffers))) ≡ true → IsJumping polled marks buffers
barrier_jumps polled marks buffers some low is =
    let front = is_front_due polled marks buffers some low is in
    let there = no_barrier_left polled marks buffers front in
    record {
      low = there;
      line = sym (ap (λ b. from_waiting (cond b (poll_barrier (merged polled marks buffers)) (poll_first (merged polled marks buffers)))) front
          ∙ ap from_waiting (one_polled polled marks buffers there) ∙ starts_merged (suc polled) marks buffers (λ any. some) low);
    }

-- one that stands first goes
pub record IsGoing (polled : ℕ) (marks : List Mark) (buffers : List HeldBuf) : Type 0 where
  pub none : polled ≡ 0
  pub counted : before_last (drop 1 marks) ≡ before_last marks
  pub line : merged polled (drop 1 marks) buffers ≡ from_waiting (poll_due (merged polled marks buffers))

poll_first_barrier : (k : ℕ) (kind : BarrierKind) (xs : List Arrived) → poll_due (Waits (Barrier k kind) ∷ xs) ≡ WasPolled (Barrier k kind) ∷ xs
poll_first_barrier k Inline xs = refl
poll_first_barrier k Front xs = refl

pub barrier_goes : (polled : ℕ) (marks : List Mark) (buffers : List HeldBuf) → (0 < polled → 0 < first_gap marks) → first_gap marks ≡ 0 → before_last marks ≤ length buffers → is_barrier (due (waiting (merged polled marks buffers))) ≡ true →
    IsGoing polled marks buffers
barrier_goes zero [] buffers ahead none low is = absurd (true≢false (sym is ∙ due_none 0 [] buffers ahead low refl))
barrier_goes (suc polled) marks buffers ahead none low is = let some = ahead (omega arith) in absurd (omega (arith, some, none))
barrier_goes zero (m ∷ marks) buffers ahead none low is = record {
  none = refl;
  counted = omega (arith, none);
  line = sym (ap (λ xs. from_waiting (poll_due xs)) (barrier_first m marks buffers none)
      ∙ ap from_waiting (poll_first_barrier m.k m.kind (merged 0 marks buffers))
      ∙ starts_merged 0 marks buffers (λ any. absurd (omega (arith, any))) (omega (arith, low)));
}

-- ---- barriers that were polled go

pub gone_step : (polled : ℕ) (marks : List Mark) (buffers : List HeldBuf) → 0 < polled → first_gap marks ≡ 0 → polled ≤ length marks → from_waiting (merged polled marks buffers) ≡ from_waiting (merged (polled - 1) (drop 1 marks) buffers)
gone_step zero marks buffers some none few = absurd (omega (arith, some))
gone_step (suc polled) [] buffers some none few = absurd (omega (arith, few))
gone_step (suc polled) (m ∷ marks) buffers some none few =
    ap from_waiting (polled_first polled m marks buffers none) ∙ ap (λ n. from_waiting (merged n marks buffers)) (let e : polled ≡ suc polled - 1 = omega arith in e)

-- the loop that takes them off
pub record AreGoing (old : List Mark) (polled : ℕ) (now : List Mark) (left : ℕ) : Type 0 where
  pub counted : before_last now ≡ before_last old
  pub few : left ≤ length now
  pub line : (buffers : List HeldBuf) → before_last old ≤ length buffers → from_waiting (merged left now buffers) ≡ from_waiting (merged polled old buffers)

pub less_gap : (marks : List Mark) → first_gap marks ≡ 0 → before_last (drop 1 marks) ≡ before_last marks
less_gap [] none = refl
less_gap (m ∷ marks) none = omega (arith, none)

pub going_on : (old : List Mark) (polled : ℕ) (now : List Mark) (left : ℕ) → AreGoing old polled now left → 0 < left → first_gap now ≡ 0 → AreGoing old polled (drop 1 now) (left - 1)
going_on old polled now left going some none =
    let few = going.few in
    let long = length-drop 1 now in
    record {
      counted = less_gap now none ∙ going.counted;
      few = omega (arith, few, long, some);
      line = λ buffers low. sym (gone_step left now buffers some none few) ∙ going.line buffers low;
    }

pub going_ends : (old : List Mark) (polled : ℕ) (now : List Mark) (left : ℕ) → AreGoing old polled now left → (0 < left → 0 < first_gap now) → HaveGone old polled now left
going_ends old polled now left going ahead = record {
  counted = going.counted;
  few_polled = going.few;
  ahead = ahead;
  line = λ buffers low. sym (starts_merged left now buffers ahead (let counted = going.counted in omega (arith, counted, low))) ∙ going.line buffers low;
}

-- ---- the first data go

pub less_before : (marks : List Mark) → 0 < first_gap marks → before_last marks ≡ before_last (one_less marks) + 1
less_before [] some = absurd (omega (arith, some))
less_before (m ∷ marks) some = omega (arith, some)

pub length-one_less : (marks : List Mark) → length (one_less marks) ≡ length marks
length-one_less [] = refl
length-one_less (m ∷ marks) = refl

-- some data stand before the first barrier, where none is due
pub some_ahead : (polled : ℕ) (marks : List Mark) (buffers : List HeldBuf) → 0 < length marks → (0 < polled → 0 < first_gap marks) → is_barrier (due (waiting (merged polled marks buffers))) ≡ false → 0 < first_gap marks
some_ahead (suc polled) marks buffers some ahead calm = ahead (omega arith)
some_ahead zero [] buffers some ahead calm = absurd (omega (arith, some))
some_ahead zero (m ∷ marks) buffers some ahead calm =
    elim (eqb m.gap 0) as (λ b. eqb m.gap 0 ≡ b → 0 < m.gap) [
      | true ↦ λ e. absurd (true≢false (sym (ap is_barrier (due_first 0 (m ∷ marks) marks m buffers ahead (Rattle.std.proofs.Common.eqb-true m.gap 0 e) refl)) ∙ calm))
      | false ↦ λ e. let apart = Rattle.std.proofs.lemmas.Bool.eqb-false m.gap 0 e in grind (arith, apart)
    ] refl

-- with no data and no barrier due, nothing stands
pub nothing_stands : (polled : ℕ) (marks : List Mark) (buffers : List HeldBuf) → buffers ≡ [] → (0 < polled → 0 < first_gap marks) → before_last marks ≤ length buffers → is_barrier (due (waiting (merged polled marks buffers))) ≡ false → merged polled marks buffers ≡ []
nothing_stands polled [] buffers empty ahead low calm = ap waiting_data empty
nothing_stands polled (m ∷ marks) buffers empty ahead low calm =
    let none : length buffers ≡ 0 = ap length empty in
    let gap : m.gap ≡ 0 = omega (arith, low, none) in
    let first : polled ≡ 0 = none_polled polled m.gap ahead gap in
    absurd (true≢false (sym (ap is_barrier (due_first polled (m ∷ marks) marks m buffers ahead gap (ap (λ n. drop n (m ∷ marks)) first))) ∙ calm))

-- with data, they do
pub data_stand : (polled : ℕ) (marks : List Mark) (buffers rest : List HeldBuf) (buf : HeldBuf) → buffers ≡ buf ∷ rest → (0 < polled → 0 < first_gap marks) → is_barrier (due (waiting (merged polled marks buffers))) ≡ false →
    StartsWithData (merged polled marks buffers) (content buf)
data_stand polled [] buffers rest buf split ahead calm = record { rest = merged polled [] rest; first = ap (merged polled []) split }
data_stand polled (m ∷ marks) buffers rest buf split ahead calm =
    let some = some_ahead polled (m ∷ marks) buffers (omega arith) ahead calm in
    record { rest = merged polled (one_less (m ∷ marks)) rest; first = ap (merged polled (m ∷ marks)) split ∙ data_first polled (m ∷ marks) buf rest some }

-- ---- numbers

barriers-data : (buffers : List HeldBuf) (xs : List Arrived) → barriers_of (map parcel_of (waiting_data buffers ++ xs)) ≡ barriers_of (map parcel_of xs)
barriers-data [] xs = refl
barriers-data (b ∷ buffers) xs = barriers-data buffers xs

barriers-only : (buffers : List HeldBuf) → barriers_of (map parcel_of (waiting_data buffers)) ≡ []
barriers-only [] = refl
barriers-only (b ∷ buffers) = barriers-only buffers

pub barriers_merged : (polled : ℕ) (marks : List Mark) (buffers : List HeldBuf) → length (barriers_of (map parcel_of (merged polled marks buffers))) ≡ length marks
barriers_merged polled [] buffers = ap length (barriers-only buffers)
barriers_merged zero (m ∷ marks) buffers =
    ap length (barriers-data (take m.gap buffers) (Waits (Barrier m.k m.kind) ∷ merged zero marks (drop m.gap buffers))) ∙ ap suc (barriers_merged zero marks (drop m.gap buffers))
barriers_merged (suc polled) (m ∷ marks) buffers =
    ap length (barriers-data (take m.gap buffers) (WasPolled (Barrier m.k m.kind) ∷ merged polled marks (drop m.gap buffers))) ∙ ap suc (barriers_merged polled marks (drop m.gap buffers))

waiting_barriers-data : (buffers : List HeldBuf) (xs : List Arrived) → barriers_of (waiting (waiting_data buffers ++ xs)) ≡ barriers_of (waiting xs)
waiting_barriers-data [] xs = refl
waiting_barriers-data (b ∷ buffers) xs = waiting_barriers-data buffers xs

waiting_barriers-only : (buffers : List HeldBuf) → barriers_of (waiting (waiting_data buffers)) ≡ []
waiting_barriers-only [] = refl
waiting_barriers-only (b ∷ buffers) = waiting_barriers-only buffers

pub waiting_merged : (polled : ℕ) (marks : List Mark) (buffers : List HeldBuf) → polled ≤ length marks → length (barriers_of (waiting (merged polled marks buffers))) + polled ≡ length marks
waiting_merged polled [] buffers few = let none = ap length (waiting_barriers-only buffers) in omega (arith, none, few)
waiting_merged zero (m ∷ marks) buffers few =
    let here = ap length (waiting_barriers-data (take m.gap buffers) (Waits (Barrier m.k m.kind) ∷ merged zero marks (drop m.gap buffers))) in
    let rest = waiting_merged zero marks (drop m.gap buffers) (omega arith) in
    omega (arith, here, rest)
waiting_merged (suc polled) (m ∷ marks) buffers few =
    let here = ap length (waiting_barriers-data (take m.gap buffers) (WasPolled (Barrier m.k m.kind) ∷ merged polled marks (drop m.gap buffers))) in
    let rest = waiting_merged polled marks (drop m.gap buffers) (omega (arith, few)) in
    omega (arith, here, rest)

-- ---- the data before a barrier

data-waiting_before : (k : ℕ) (buffers : List HeldBuf) (xs : List Arrived) → waiting_before k (waiting_data buffers ++ xs) ≡ contents buffers ++ waiting_before k xs
data-waiting_before k [] xs = refl
data-waiting_before k (b ∷ buffers) xs = ap (λ z. content b ++ z) (data-waiting_before k buffers xs) ∙ sym (append_assoc (content b) (contents buffers) (waiting_before k xs))

only-waiting_before : (k : ℕ) (buffers : List HeldBuf) → waiting_before k (waiting_data buffers) ≡ contents buffers
only-waiting_before k [] = refl
only-waiting_before k (b ∷ buffers) = ap (λ z. content b ++ z) (only-waiting_before k buffers)

-- whether the barriers were polled makes no difference
pub before_merged : (k polled : ℕ) (marks : List Mark) (buffers : List HeldBuf) → waiting_before k (merged polled marks buffers) ≡ waiting_before k (merged 0 marks buffers)
before_merged k polled [] buffers = refl
before_merged k zero (m ∷ marks) buffers = refl
before_merged k (suc polled) (m ∷ marks) buffers =
    data-waiting_before k (take m.gap buffers) (WasPolled (Barrier m.k m.kind) ∷ merged polled marks (drop m.gap buffers))
    ∙ ap (λ z. contents (take m.gap buffers) ++ cond (eqb m.k k) [] z) (before_merged k polled marks (drop m.gap buffers))
    ∙ sym (data-waiting_before k (take m.gap buffers) (Waits (Barrier m.k m.kind) ∷ merged 0 marks (drop m.gap buffers)))

contents-append : (xs ys : List HeldBuf) → contents (xs ++ ys) ≡ contents xs ++ contents ys
contents-append [] ys = refl
contents-append (x ∷ xs) ys = ap (λ z. content x ++ z) (contents-append xs ys) ∙ sym (append_assoc (content x) (contents xs) (contents ys))

-- so many data buffers are looked past, and these barriers are left
pub record IsLooked (k count : ℕ) (left all : List Mark) (buffers : List HeldBuf) : Type 0 where
  pub bytes : waiting_before k (merged 0 all buffers) ≡ contents (take count buffers) ++ waiting_before k (merged 0 left (drop count buffers))
  pub counted : count + before_last left ≡ before_last all

pub looks_at_first : (k : ℕ) (marks : List Mark) (buffers : List HeldBuf) → IsLooked k 0 marks marks buffers
looks_at_first k marks buffers = record { bytes = refl; counted = omega arith }

-- past the data before the next one
past_data : (k count : ℕ) (m : Mark) (rest all : List Mark) (buffers : List HeldBuf) → IsLooked k count (m ∷ rest) all buffers →
    waiting_before k (merged 0 all buffers) ≡ contents (take (count + m.gap) buffers) ++ cond (eqb m.k k) [] (waiting_before k (merged 0 rest (drop (count + m.gap) buffers)))
past_data k count m rest all buffers l =
    let left = drop count buffers in
    let more = cond (eqb m.k k) [] (waiting_before k (merged 0 rest (drop m.gap left))) in
    l.bytes ∙ ap (λ z. contents (take count buffers) ++ z) (data-waiting_before k (take m.gap left) (Waits (Barrier m.k m.kind) ∷ merged 0 rest (drop m.gap left)))
    ∙ sym (append_assoc (contents (take count buffers)) (contents (take m.gap left)) more)
    ∙ ap (λ z. z ++ more) (sym (ap contents (take-add count m.gap buffers) ∙ contents-append (take count buffers) (take m.gap left)))
    ∙ ap (λ bs. contents (take (count + m.gap) buffers) ++ cond (eqb m.k k) [] (waiting_before k (merged 0 rest bs))) (sym (drop-add count m.gap buffers))

pub looks_on : (k count : ℕ) (m : Mark) (rest all : List Mark) (buffers : List HeldBuf) → IsLooked k count (m ∷ rest) all buffers → eqb m.k k ≡ false → IsLooked k (count + m.gap) rest all buffers
looks_on k count m rest all buffers l other = record {
  bytes = past_data k count m rest all buffers l ∙ ap (λ b. contents (take (count + m.gap) buffers) ++ cond b [] (waiting_before k (merged 0 rest (drop (count + m.gap) buffers)))) other;
  counted = (let counted = l.counted in omega (arith, counted));
}

pub looks_here : (k count : ℕ) (m : Mark) (rest all : List Mark) (buffers : List HeldBuf) → IsLooked k count (m ∷ rest) all buffers → eqb m.k k ≡ true → contents (take (count + m.gap) buffers) ≡ waiting_before k (merged 0 all buffers)
looks_here k count m rest all buffers l same =
    sym (past_data k count m rest all buffers l ∙ ap (λ b. contents (take (count + m.gap) buffers) ++ cond b [] (waiting_before k (merged 0 rest (drop (count + m.gap) buffers)))) same ∙ append-nil (contents (take (count + m.gap) buffers)))

pub looks_at_all : (k count n : ℕ) (all : List Mark) (buffers : List HeldBuf) → IsLooked k count [] all buffers → n ≡ length buffers → contents (take n buffers) ≡ waiting_before k (merged 0 all buffers)
looks_at_all k count n all buffers l whole =
    ap contents (take_all n buffers (omega (arith, whole)))
    ∙ sym (l.bytes ∙ ap (λ z. contents (take count buffers) ++ z) (only-waiting_before k (drop count buffers)) ∙ sym (contents-append (take count buffers) (drop count buffers)) ∙ ap contents (take-append-drop count buffers))

-- one buffer more is copied
take-more : (n : ℕ) (xs : List HeldBuf) (x : HeldBuf) → Some x ≡ slice_get xs n → take (n + 1) xs ≡ take n xs ++ x ∷ []
take-more n [] x e = absurd (no x e)
  where
    no : (x : HeldBuf) → ◌≡◌ {A = Option HeldBuf} (Some x) None → ⊥
    no x e = cc
take-more zero (y ∷ ys) x e = ap (λ z. z ∷ []) (sym (same_Some x y e))
take-more (suc n) (y ∷ ys) x e = ap (λ k. take k (y ∷ ys)) (let same : suc n + 1 ≡ suc (n + 1) = omega arith in same) ∙ ap (λ zs. y ∷ zs) (take-more n ys x e)

pub one_copied : (n : ℕ) (xs : List HeldBuf) (x : HeldBuf) → Some x ≡ slice_get xs n → contents (take n xs) ++ content x ≡ contents (take (n + 1) xs)
one_copied n xs x e = sym (ap contents (take-more n xs x e) ∙ contents-append (take n xs) (x ∷ []) ∙ ap (λ z. contents (take n xs) ++ z) (append-nil (content x)))

pub all_copied : (n m : ℕ) (xs : List HeldBuf) → None ≡ slice_get xs n → n ≤ m → contents (take n xs) ≡ contents (take m xs)
all_copied n m [] e low = ap contents (take-nil n ∙ sym (take-nil m))
  where
    take-nil : (k : ℕ) → ◌≡◌ {A = List HeldBuf} (take k []) []
    take-nil zero = refl
    take-nil (suc k) = refl
all_copied zero m (y ∷ ys) e low = absurd (no y e)
  where
    no : (y : HeldBuf) → ◌≡◌ {A = Option HeldBuf} None (Some y) → ⊥
    no y e = cc
all_copied (suc n) zero (y ∷ ys) e low = absurd (omega (arith, low))
all_copied (suc n) (suc m) (y ∷ ys) e low = ap (λ z. content y ++ z) (all_copied n m ys e (omega (arith, low)))

-- ---- the same, of lists as the calls of the queue know them

pub front_of : (kind : BarrierKind) → (kind ≡ Inline → ⊥) → kind ≡ Front
front_of Inline apart = absurd (apart refl)
front_of Front apart = refl

pub floats-cons : (buf : HeldBuf) (buffers : List HeldBuf) → count_by not (kinds_of (buf ∷ buffers)) ≡ bool_byte (not buf.exclusive) + count_by not (kinds_of buffers)
floats-cons buf buffers = count-cons not buf.exclusive (kinds_of buffers) ∙ elim buf.exclusive as (λ b. cond (not b) 1 0 + count_by not (kinds_of buffers) ≡ bool_byte (not b) + count_by not (kinds_of buffers)) [ true ↦ refl | false ↦ refl ]

pub keep_last-fits : {A : Type 0} (n : ℕ) (xs : List A) (x : A) → length xs < n → keep_last n (xs ++ x ∷ []) ≡ xs ++ x ∷ []
keep_last-fits n xs x low = ap (λ k. drop k (xs ++ x ∷ [])) (let e : length (xs ++ x ∷ []) - n ≡ 0 = omega (arith, low, length-append xs (x ∷ [])) in e)
