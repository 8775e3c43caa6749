-- How the worker goes from one checkpoint to the next.
use Rattle.std.proofs.Common.{◌≡◌, inl, ℕ, zero, suc, ◌+◌, ◌<◌, Bool, true, false, List, [], ◌∷◌, ◌++◌, length, map, Option, Some, None, refl, sym, ap, ◌∙◌, subst, arith, append_assoc, append-nil}
use Rattle.std.specs.Prelude.{Contains, slice_get, unwrap_or}
use Rattle.std.specs.List.{AllByRecursion, last_or, list_all}
use Rattle.std.proofs.lemmas.Bool.{and_parts}
use Rattle.std.proofs.lemmas.List.{length-append}
use Rattle.std.proofs.lemmas.List.Elements.{Contains-append_left}
use Rattle.turn_cell.specs.History.{StartsWith}
use Rattle.flow_defs.specs.declared.job.Job.{Job}
use Rattle.flow_defs.specs.declared.image.Image.{Image}
use Rattle.flow_defs.specs.declared.image.Snapshot.{Snapshot}
use Rattle.plain_machine.specs.Images.{Fits}
use Rattle.plain_machine.specs.Chains.{last_of}
use Rattle.plain_machine.specs.Spelling.{spelling, CanSpell}
use Rattle.job_start.specs.declared.start.Start.{Start}
use Rattle.job_start.specs.Starts.{IsBase, IsStartFor, all_were_ended}
use Rattle.channel_state.specs.ImageFaults.{IsReadable}
use Rattle.checkpoint_laws.specs.Chapters.{Linked}
use Rattle.checkpoint_laws.specs.Collecting.{Collected, IsLast}
use Rattle.collector.specs.declared.collector.Checkpoint.{Checkpoint}
use Rattle.collector.specs.Faults.{IsFaultOf, IsNothingSaved}
use Rattle.collector.specs.Images.{SnapshotsMakeFitting}
use Rattle.outside.specs.Keepers.{KeptImage, with_image}
use Rattle.outside.specs.declared.last_image.Stored.{Stored}
use Rattle.collecting_worker.specs.Images.{AreStored, IsMadeFrom, IsNext, has_all_ended, kept_of, stored_of, with_images}
use Rattle.collecting_worker.specs.Gathering.{IsComplete, MayBeLast, first_is_last}
use Rattle.collecting_worker.proofs.Complete.{made_from, complete_fits, collected, all_ended, ended_all, last_next}

-- ---- lists

last_of_more : (base image : Image) (images : List Image) → last_of base (images ++ image ∷ []) ≡ image
last_of_more base image [] = refl
last_of_more base image (x ∷ images) = last_of_more x image images

pub linked_more : (R : Image → Image → Type 0) (base image : Image) (images : List Image) → Linked R base images → R (last_of base images) image → Linked R base (images ++ image ∷ [])
linked_more R base image [] h r = (r, tt)
linked_more R base image (x ∷ images) h r = (h.0, linked_more R x image images h.1 r)

pub all_more : (P : Image → Type 0) (images : List Image) (image : Image) → AllByRecursion P images → P image → AllByRecursion P (images ++ image ∷ [])
all_more P [] image h p = (p, tt)
all_more P (x ∷ images) image h p = (h.0, all_more P images image h.1 p)

all_weaker : (P Q : Image → Type 0) (images : List Image) → ((x : Image) → P x → Q x) → AllByRecursion P images → AllByRecursion Q images
all_weaker P Q [] f h = tt
all_weaker P Q (x ∷ images) f h = (f x h.0, all_weaker P Q images f h.1)

last_more : (o : Option Image) (images : List Image) (image : Image) → last_or o (images ++ image ∷ []) ≡ Some image
last_more o [] image = refl
last_more o (x ∷ images) image = last_more (Some x) images image

map_more : {X : Type 0} (f : Image → X) (images : List Image) (image : Image) → map f (images ++ image ∷ []) ≡ map f images ++ f image ∷ []
map_more f [] image = refl
map_more f (x ∷ images) image = ap (λ l. f x ∷ l) (map_more f images image)

kept_more : (before : Option (List KeptImage)) (images : List Image) (image : Image) → with_image (with_images before images) image.number (spelling image) ≡ with_images before (images ++ image ∷ [])
kept_more None images image = refl
kept_more (Some old) images image = ap (λ l. Some l) (append_assoc old (map kept_of images) (kept_of image ∷ []) ∙ ap (λ l. old ++ l) (sym (map_more kept_of images image)))

kept_none : (before : Option (List KeptImage)) → before ≡ with_images before []
kept_none None = refl
kept_none (Some old) = ap (λ l. Some l) (sym (append-nil old))

-- ---- more is received

still_made : (job : Job) (received more : List Snapshot) → StartsWith more received → (image : Image) → IsMadeFrom job received image → IsMadeFrom job more image
still_made job received more starts image h = record {
  snapshot = h.snapshot;
  made = h.made;
  each = λ i a stage index.
      let was = h.each i a stage index in
      record { received_it = subst (λ l. Contains l (h.snapshot i a)) (sym starts.1) (Contains-append_left received starts.0 (h.snapshot i a) was.received_it); task_is = was.task_is; number_is = was.number_is };
}

pub still_stored : (job : Job) (start : Start) (every : Option ℕ) (received more : List Snapshot) (before after : Option (List KeptImage)) (told : List Stored) (images : List Image) → StartsWith more received
    → AreStored job start every received before after told images → AreStored job start every more before after told images
still_stored job start every received more before after told images starts h = record {
  kept = h.kept;
  told_are = h.told_are;
  collected = h.collected;
  fit = h.fit;
  spelled = h.spelled;
  readable = h.readable;
  made = all_weaker (IsMadeFrom job received) (IsMadeFrom job more) images (still_made job received more starts) h.made;
}

pub none_stored : (job : Job) (start : Start) (every : Option ℕ) (received : List Snapshot) (before : Option (List KeptImage)) (told : List Stored) → told ≡ [] → AreStored job start every received before before told []
none_stored job start every received before told none = record {
  kept = kept_none before;
  told_are = none;
  collected = λ base is. tt;
  fit = tt;
  spelled = tt;
  readable = tt;
  made = tt;
}

-- ---- what is known behind some images

pub record IsBehind (every : Option ℕ) (old : Image) (many : ℕ) (final_one : Bool) : Type 0 where
  pub number : old.number ≡ many
  pub not_last : old.final_one ≡ false
  pub last : (new : Image) → new.final_one ≡ final_one → IsLast every old new

-- the worker stored images, and this is the number of the next one, which is the last or not
pub record IsGoing (job : Job) (start : Start) (every : Option ℕ) (received : List Snapshot) (before after : Option (List KeptImage)) (told : List Stored) (last : Option Image) (number : ℕ) (final_one : Bool) : Type 0 where
  pub images : List Image
  pub many : number ≡ start.number + suc (length images)
  pub stored : AreStored job start every received before after told images
  pub last_is : last ≡ last_or None images
  pub at_once : every ≡ None → final_one ≡ true
  pub behind : (base : Image) → IsBase job start base → IsBehind every (last_of base images) (start.number + length images) final_one
  pub may_be_last : final_one ≡ true → MayBeLast job start every received number

first_last : (job : Job) (start : Start) (every : Option ℕ) (base new : Image) → IsBase job start base → new.final_one ≡ first_is_last start every → IsLast every base new
first_last job start None base new is flag = flag
first_last job start (Some n) base new is flag =
    let same : has_all_ended base ≡ all_were_ended start = ap (λ l. list_all (λ (ended : Bool). ended) l) (sym is.at.ended) in
    (λ last. all_ended base (same ∙ sym flag ∙ last), λ all. flag ∙ sym same ∙ ended_all base all)

all_at : (xs : List Bool) (a : ℕ) → list_all (λ (ended : Bool). ended) xs ≡ true → a < length xs → unwrap_or (slice_get xs a) false ≡ true
all_at [] a all low = absurd (omega (arith, low))
all_at (x ∷ xs) zero all low = (and_parts x (list_all (λ (ended : Bool). ended) xs) all).0
all_at (x ∷ xs) (suc a) all low = all_at xs a (and_parts x (list_all (λ (ended : Bool). ended) xs) all).1 (omega (arith, low))

first_may_be_last : (job : Job) (start : Start) (every : Option ℕ) (received : List Snapshot) (k : ℕ) → IsStartFor job start → first_is_last start every ≡ true → MayBeLast job start every received k
first_may_be_last job start None received k is all = tt
first_may_be_last job start (Some n) received k is all = λ a low. inl (all_at start.ended.items a all (omega (arith, low, is.ended)))

at_once_is : (start : Start) (every : Option ℕ) → every ≡ None → first_is_last start every ≡ true
at_once_is start None none = refl
at_once_is start (Some n) none = absurd (cc)

pub begins : (job : Job) (start : Start) (every : Option ℕ) (received : List Snapshot) (before : Option (List KeptImage)) (told : List Stored) (last : Option Image) (number : ℕ) (final_one : Bool) → IsStartFor job start → told ≡ [] → last ≡ None
    → number ≡ start.number + 1 → final_one ≡ first_is_last start every → IsGoing job start every received before before told last number final_one
begins job start every received before told last number final_one is_start none_told none next first = record {
  images = [];
  many = omega (arith, next);
  stored = none_stored job start every received before told none_told;
  last_is = none;
  at_once = λ no. first ∙ at_once_is start every no;
  behind = λ base is. record { number = omega (arith, is.at.number); not_last = is.not_last; last = λ new flag. first_last job start every base new is (flag ∙ first) };
  may_be_last = λ final. first_may_be_last job start every received number is_start (sym first ∙ final);
}

-- ---- one more image is stored

module _ (law : SnapshotsMakeFitting) (job : Job) (start : Start) (every : Option ℕ) (received more : List Snapshot) (starts : StartsWith more received) (before mid after : Option (List KeptImage)) (told told' : List Stored) (last last' : Option Image)
    (cp : Checkpoint) (going : IsGoing job start every received before mid told last cp.number cp.final_one) (image : Image) (complete : IsComplete job more cp image) where
  number_next : image.number ≡ start.number + suc (length going.images)
  number_next = complete.image_is.number_is ∙ going.many

  is_last : (base : Image) → IsBase job start base → IsLast every (last_of base going.images) image
  is_last base is = (going.behind base is).last image complete.image_is.last

  collected_next : (image.final_one ≡ true → IsNothingSaved job image) → (base : Image) → IsBase job start base → Collected job every (last_of base going.images) image
  collected_next still base is =
      let behind = going.behind base is in
      collected job every more cp (last_of base going.images) image complete still (ap (λ n. n + 1) behind.number ∙ omega (arith, going.many)) behind.not_last (is_last base is)

  pub next_image : IsNext job start every more going.images image
  next_image = record { made = made_from job more cp image complete; number_is = number_next; last = is_last; collected = collected_next }

  abbrev all_images : List Image
  all_images = going.images ++ image ∷ []

  module _ (sound : IsFaultOf job image None) (can : CanSpell image) (readable : IsReadable image) (kept : after ≡ with_image mid image.number (spelling image)) (tells : told' ≡ told ++ stored_of image ∷ []) (last_is : last' ≡ Some image) where
    pub one_more : AreStored job start every more before after told' all_images
    one_more =
        let was = still_stored job start every received more before mid told going.images starts going.stored in
        record {
          kept = kept ∙ ap (λ k. with_image k image.number (spelling image)) was.kept ∙ kept_more before going.images image;
          told_are = tells ∙ ap (λ l. l ++ stored_of image ∷ []) was.told_are ∙ sym (map_more stored_of going.images image);
          collected = λ base is. linked_more (Collected job every) base image going.images (was.collected base is) (collected_next sound.1 base is);
          fit = all_more (Fits job) going.images image was.fit (complete_fits law job more cp image complete sound);
          spelled = all_more CanSpell going.images image was.spelled can;
          readable = all_more IsReadable going.images image was.readable readable;
          made = all_more (IsMadeFrom job more) going.images image was.made (made_from job more cp image complete);
        }

    pub last_is_it : last' ≡ last_or None all_images
    last_is_it = last_is ∙ sym (last_more None going.images image)

    next_last : (e : Option ℕ) → every ≡ e → cp.final_one ≡ false → (final_one : Bool) → final_one ≡ has_all_ended image → (new : Image) → new.final_one ≡ final_one → IsLast e image new
    next_last None is not_last final_one ended new flag = let yes = going.at_once is in absurd (cc)
    next_last (Some n) is not_last final_one ended new flag =
        (λ yes. all_ended image (sym ended ∙ sym flag ∙ yes), λ all. flag ∙ ended ∙ ended_all image all)

    pub goes_on : (number : ℕ) (final_one : Bool) → number ≡ suc cp.number → cp.final_one ≡ false → final_one ≡ has_all_ended image → IsGoing job start every more before after told' last' number final_one
    goes_on number final_one next not_last ended = record {
      images = all_images;
      many = next ∙ omega (arith, going.many, length-append going.images (image ∷ []));
      stored = one_more;
      last_is = last_is_it;
      at_once = λ none. let yes = going.at_once none in absurd (cc);
      behind = λ base is_base.
          let is : last_of base all_images ≡ image = last_of_more base image going.images in
          record {
            number = ap (λ (x : Image). x.number) is ∙ number_next ∙ omega (arith, length-append going.images (image ∷ []));
            not_last = ap (λ (x : Image). x.final_one) is ∙ complete.image_is.last ∙ not_last;
            last = λ new flag. subst (λ (x : Image). IsLast every x new) (sym is) (next_last every refl not_last final_one ended new flag);
          };
      may_be_last = λ final. subst (λ n. MayBeLast job start every more n) (sym next) (last_next job start every more cp image complete (sym ended ∙ final));
    }
