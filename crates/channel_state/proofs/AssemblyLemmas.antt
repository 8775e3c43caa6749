-- An image whose parts were read fits its job, and is what the bytes spell.
use Rattle.std.proofs.Common.{◌≡◌, ℕ, zero, suc, ◌+◌, ◌^◌, ◌<◌, ◌≤◌, Bool, true, eqb, List, [], ◌∷◌, ◌++◌, length, Result, Ok, Err, refl, sym, ap, subst, ◌∙◌, append-nil, append_assoc, arith}
use Rattle.std.specs.Prelude.{flat_map, zip, All, nat_le, codes}
use Rattle.std.specs.List.{AllByRecursion}
use Rattle.std.specs.Int.{w64, to_be_bytes}
use Rattle.std.specs.FinMap.{entries}
use Rattle.std.proofs.lemmas.Bool.{leb-true, eqb-true, and_parts}
use Rattle.std.proofs.lemmas.Option.{slice_get_within}
use Rattle.std.proofs.lemmas.List.Elements.{All-from_recursion, recursion_from_All, All-weaker}
use Rattle.flow_defs.specs.declared.job.Job.{Job}
use Rattle.flow_defs.specs.declared.image.Image.{Image}
use Rattle.flow_defs.specs.Items.{Items}
use Rattle.flow_defs.specs.Jobs.{last_edge, tasks, is_channel, IsJob}
use Rattle.flow_defs.specs.Tables.{Values}
use Rattle.plain_machine.specs.Places.{sending_tasks, channels, receiver_place, channel_place}
use Rattle.plain_machine.specs.Images.{items_at, saved, AreSpans, HasShortKeys, Fits}
use Rattle.plain_machine.specs.Spelling.{flag_part, sized, source_part, channel_part, spelling, CanSpell}
use Rattle.plain_machine.proofs.PlaceLemmas.{channels_stand, sum_below-within}
use Rattle.job_text.specs.Laws.{HaveSameTasks}
use Rattle.job_text.specs.Shapes.{Shape, shape_of, job_of, IsShapeOf}
use Rattle.job_text.proofs.ShapeLemmas.{same_shape, shaped_job}
use Rattle.channel_state.specs.Contents.{FitsItsText, TEXT_MOST}
use Rattle.channel_state.specs.Reading.{byte, flag, number, piece, mark, tested, nothing}
use Rattle.channel_state.specs.ImageFaults.{is_text}
use Rattle.channel_state.specs.Building.{IsBytes, TakesText, IsRead, IsSource, IsTable, IsCount, ArePieces, table_part, takes_part, AreSources, AreSaved, AreTakes, IsSpelledBy}
use Rattle.channel_state.proofs.FieldLemmas.{tested_ok, number_takes, wide64, piece_takes, flag_takes, byte_takes, mark_takes, nothing_takes}
use Rattle.channel_state.proofs.FitsLemmas.{many_receive, same_fits, turned_tasks}

-- ---- lists side by side

all_ended : (last : Bool) (offsets : List ℕ) (ended : List Bool) → length offsets ≡ length ended → last ≡ true → AllByRecursion (IsSource last) (zip offsets ended) → AllByRecursion (λ (e : Bool). e ≡ true) ended
all_ended last [] [] same is all = tt
all_ended last [] (e ∷ ended) same is all = absurd (omega (arith, same))
all_ended last (o ∷ offsets) [] same is all = absurd (omega (arith, same))
all_ended last (o ∷ offsets) (e ∷ ended) same is all = (all.0 is, all_ended last offsets ended (omega (arith, same)) is all.1)

pair_at : (last : Bool) (ins outs : List (Items ℕ)) (p : ℕ) → length ins ≡ length outs → p < length ins → AllByRecursion (ArePieces last) (zip ins outs)
    → AreSpans (items_at ins p ++ items_at outs p) × (last ≡ true → items_at ins p ++ items_at outs p ≡ [])
pair_at last [] outs p same low all = absurd (omega (arith, low))
pair_at last (x ∷ ins) [] p same low all = absurd (omega (arith, same))
pair_at last (x ∷ ins) (y ∷ outs) zero same low all = (all.0.spans, all.0.empty)
pair_at last (x ∷ ins) (y ∷ outs) (suc p) same low all = pair_at last ins outs p (omega (arith, same)) (omega (arith, low)) all.1

first_counts : (last : Bool) (ins outs : List (Items ℕ)) → length ins ≡ length outs → AllByRecursion (ArePieces last) (zip ins outs) → AllByRecursion (λ (x : Items ℕ). length x.items < 2 ^ 32) ins
first_counts last [] outs same all = tt
first_counts last (x ∷ ins) [] same all = absurd (omega (arith, same))
first_counts last (x ∷ ins) (y ∷ outs) same all = (all.0.first, first_counts last ins outs (omega (arith, same)) all.1)

second_counts : (last : Bool) (ins outs : List (Items ℕ)) → length ins ≡ length outs → AllByRecursion (ArePieces last) (zip ins outs) → AllByRecursion (λ (x : Items ℕ). length x.items < 2 ^ 32) outs
second_counts last [] [] same all = tt
second_counts last [] (y ∷ outs) same all = absurd (omega (arith, same))
second_counts last (x ∷ ins) [] same all = tt
second_counts last (x ∷ ins) (y ∷ outs) same all = (all.0.second, second_counts last ins outs (omega (arith, same)) all.1)

-- ---- the parts of an image

pub record HasParts (job : Job) (before behind : List ℕ) (img : Image) : Type 0 where
  pub from_counts : List ℕ
  pub from_tables : List ℕ
  pub from_takes : List ℕ
  pub from_saved : List ℕ
  pub sources : AreSources (tasks job 0) img.final_one before from_counts img.offsets.items img.ended.items
  pub counts : TakesText from_counts (flat_map (to_be_bytes w64) img.emitted.items) from_tables
  pub count_count : length img.emitted.items ≡ length (sending_tasks job)
  pub tables : IsRead table_part IsTable from_tables from_takes img.tables.items
  pub table_count : length img.tables.items ≡ tasks job (suc (last_edge job))
  pub takes : AreTakes job (suc (last_edge job)) 0 from_takes from_saved img.takes.items
  pub saved : AreSaved (length (channels job)) img.final_one from_saved behind img.saved_in.items img.saved_out.items

module _ (job : Job) (before behind : List ℕ) (img : Image) (is : IsJob job) (parts : HasParts job before behind img) where
  same_saved : length img.saved_in.items ≡ length img.saved_out.items
  same_saved = parts.saved.first_count ∙ sym parts.saved.second_count

  pairs : AllByRecursion (ArePieces img.final_one) (zip img.saved_in.items img.saved_out.items)
  pairs = recursion_from_All (ArePieces img.final_one) (zip img.saved_in.items img.saved_out.items) parts.saved.read.each

  pair_of : (e a b : ℕ) → is_channel job e a b ≡ true → AreSpans (saved job img e a b) × (img.final_one ≡ true → saved job img e a b ≡ [])
  pair_of e a b on =
      let within = slice_get_within (channels job) (channel_place job e a b) (e, a, b) (channels_stand job e a b is on) in
      let count = parts.saved.first_count in
      pair_at img.final_one img.saved_in.items img.saved_out.items (channel_place job e a b) same_saved (omega (arith, within, count)) pairs

  parts_fit : Fits job img
  parts_fit =
      let many = many_receive job in
      let count = parts.takes.count in
      record {
        offsets = parts.sources.offset_count;
        ended = parts.sources.ended_count;
        emitted = parts.count_count;
        tables = parts.table_count;
        takes = omega (arith, many, count);
        saved_in = parts.saved.first_count;
        saved_out = parts.saved.second_count;
        keys = All-weaker IsTable HasShortKeys (λ t it. it.keys) img.tables.items parts.tables.each;
        runs = λ e b low here. (let within = sum_below-within (suc (last_edge job)) (λ i. tasks job (suc i)) e (omega (arith, low)) in parts.takes.runs e b here (omega (arith, within, here, count)));
        spans = λ e a b on. (pair_of e a b on).0;
        last_is_ended = λ last. All-from_recursion (λ (e : Bool). e ≡ true) img.ended.items
            (all_ended img.final_one img.offsets.items img.ended.items (parts.sources.offset_count ∙ sym parts.sources.ended_count) last (recursion_from_All (IsSource img.final_one) (zip img.offsets.items img.ended.items) parts.sources.read.each));
        last_is_empty = λ last e a b on. (pair_of e a b on).1 last;
      }

  parts_can : 1 ≤ img.number → CanSpell img
  parts_can number = record {
    number = number;
    keys = All-weaker IsTable (λ (t : Values). length (entries t) < 2 ^ 32) (λ t it. it.count) img.tables.items parts.tables.each;
    runs = parts.takes.read.each;
    pieces_in = All-from_recursion (λ (x : Items ℕ). length x.items < 2 ^ 32) img.saved_in.items (first_counts img.final_one img.saved_in.items img.saved_out.items same_saved pairs);
    pieces_out = All-from_recursion (λ (x : Items ℕ). length x.items < 2 ^ 32) img.saved_out.items (second_counts img.final_one img.saved_in.items img.saved_out.items same_saved pairs);
  }

-- what stands before the parts, and behind them
pub record HasEnds (bytes : List ℕ) (img : Image) (before behind : List ℕ) : Type 0 where
  pub from_version : List ℕ
  pub from_number : List ℕ
  pub from_flag : List ℕ
  pub from_text : List ℕ
  pub end : List ℕ
  pub rest : List ℕ
  pub version : ℕ
  pub mark_is : mark (codes "FLWI") bytes ≡ Ok from_version
  pub version_is : tested (λ version. eqb version 1) byte from_version ≡ Ok (version, from_number)
  pub number_is : tested (nat_le 1) (number w64) from_number ≡ Ok (img.number, from_flag)
  pub flag_is : flag from_flag ≡ Ok (img.final_one, from_text)
  pub text_is : tested is_text piece from_text ≡ Ok (img.text.items, before)
  pub end_is : mark (codes "IWLF") behind ≡ Ok end
  pub nothing_is : nothing end ≡ Ok rest

join : {a x b y c : List ℕ} → TakesText a x b → TakesText b y c → TakesText a (x ++ y) c
join {a} {x} {b} {y} {c} p q = record { parts = p.parts ∙ ap (λ (t : List ℕ). x ++ t) q.parts ∙ sym (append_assoc x y c); rest_fits = q.rest_fits }

ended : {a x b : List ℕ} → TakesText a x b → b ≡ [] → a ≡ x
ended {a} {x} {b} p none = p.parts ∙ ap (λ l. x ++ l) none ∙ append-nil x

-- the bytes before the parts
head_taken : (bytes : List ℕ) (img : Image) (before behind : List ℕ) → IsBytes bytes → HasEnds bytes img before behind → TakesText bytes (codes "FLWI" ++ 1 ∷ to_be_bytes w64 img.number ++ flag_part img.final_one ++ sized img.text.items) before × (1 ≤ img.number) × (is_text img.text.items ≡ true)
head_taken bytes img before behind fits ends =
    let m = mark_takes (codes "FLWI") bytes ends.from_version fits ends.mark_is in
    let v = tested_ok (λ version. eqb version 1) byte ends.from_version (ends.version, ends.from_number) ends.version_is in
    let w : TakesText ends.from_version (1 ∷ []) ends.from_number =
    subst (λ k. TakesText ends.from_version (k ∷ []) ends.from_number) (eqb-true _ _ v.1) (byte_takes ends.from_version ends.version ends.from_number m.rest_fits v.0) in
    let n = tested_ok (nat_le 1) (number w64) ends.from_number (img.number, ends.from_flag) ends.number_is in
    let k = number_takes w64 (2 ^ 64) wide64 ends.from_number img.number ends.from_flag w.rest_fits n.0 in
    let f = flag_takes ends.from_flag img.final_one ends.from_text k.0.rest_fits ends.flag_is in
    let t = tested_ok is_text piece ends.from_text (img.text.items, before) ends.text_is in
    let p = piece_takes ends.from_text img.text.items before f.rest_fits t.0 in
    (join (join (join m (join w k.0)) f) p.0, leb-true _ _ n.1, t.1)

pub image_built : (bytes : List ℕ) (img : Image) (before behind : List ℕ) (shape : Shape) → IsBytes bytes → HasEnds bytes img before behind → IsShapeOf img.text.items shape → (IsBytes before → HasParts (job_of shape) before behind img)
    → IsSpelledBy bytes img
unfolding spelling
image_built bytes img before behind shape fits ends its have =
    let head = head_taken bytes img before behind fits ends in
    let job = job_of shape in
    let plain_is : job_of (shape_of its.job) ≡ job = ap job_of (sym its.shape_is) in
    let is : IsJob job = subst IsJob plain_is (shaped_job its.job its.job_text.is_job) in
    let parts = have head.0.rest_fits in
    let lists = join (join (join (join (join head.0 parts.sources.read.spelled) parts.counts) parts.tables.spelled) parts.takes.read.spelled) parts.saved.read.spelled in
    let whole = join lists (mark_takes (codes "IWLF") behind ends.end lists.rest_fits ends.end_is) in
    let all = ended whole (nothing_takes ends.end ends.rest ends.nothing_is) in
    let same = subst (λ other. HaveSameTasks its.job other) plain_is (same_shape its.job) in
    record {
      can = parts_can job before behind img is parts head.1;
      fits = record {
        job = its.job;
        job_text = its.job_text;
        fits = same_fits job its.job (turned_tasks its.job job same) img is its.job_text.is_job (parts_fit job before behind img is parts);
        short = leb-true _ _ (and_parts _ _ head.2).0;
      };
      spelled = sym all;
    }
