-- What stands behind the data of a channel: the end, or a barrier.
use Rattle.std.proofs.Common.{◌≡◌, ℕ, false, Option, None, List, [], ◌∷◌, ◌++◌, sym, ap, subst, ◌∙◌, append-nil, inl, inr}
use Rattle.std.specs.Prelude.{IfSome}
use Rattle.subpartition.specs.declared.entry.SendEntry.{SendEntry}
use Rattle.subpartition.specs.declared.entry.SendEntry.TheVariants.{PutInline, Finish}
use Rattle.subpartition.specs.Sending.{put, is_finished}
use Rattle.record_writer.specs.declared.part.Part.{Part}
use Rattle.record_writer.specs.Writers.{bytes_in, AreCut, last_put, GrewByData}
use Rattle.record_writer.specs.Channels.{IsPart, IsOpenAt, WasEndedAt, WasMarkedAt, WasStoppedAt, PutIfSome, laid}
use Rattle.subpartition.proofs.Travelling.{put-append}
use Rattle.record_writer.proofs.Entries.{finished-more, last-append, cut-append, grew_none, grew_one, grew_up_to}
use Rattle.record_writer.proofs.Putting.{filled_least, filled_fits, put_keeps_cut, put_keeps_unfinished, put_laid}

-- Nothing was put.
pub stopped_before : (size : ℕ) (last : SendEntry) (held : List ℕ) (own own' : List SendEntry) → IsOpenAt size own → own' ≡ own → WasStoppedAt size last own own' (put own ++ held)
stopped_before size last held own own' was same = record {
  some = record {
    owed = held;
    begins = ap (λ es. put es ++ held) same;
    buffers = subst (AreCut size) (sym same) was.buffers;
  };
  entries = inl (grew_none own own' same);
}

-- All was put, and the end or a barrier behind it.
pub ended_or_stopped : (size : ℕ) (own own' : List SendEntry) (bytes : List ℕ) → WasEndedAt size own own' bytes → WasStoppedAt size Finish own own' bytes
ended_or_stopped size own own' bytes ended = record {
  some = record { owed = []; begins = append-nil (put own') ∙ ended.all.whole; buffers = ended.all.buffers };
  entries = inr ended.entries;
}

pub marked_or_stopped : (size k : ℕ) (own own' : List SendEntry) (bytes : List ℕ) → WasMarkedAt size k own own' bytes → WasStoppedAt size (PutInline k) own own' bytes
marked_or_stopped size k own own' bytes marked = record {
  some = record { owed = []; begins = append-nil (put own') ∙ marked.whole; buffers = marked.is_open.buffers };
  entries = inr marked.entries;
}

-- What was being filled was put.
module _ (size : ℕ) (part : Part) (own mid own' : List SendEntry) (is_part : IsPart size part) (was : IsOpenAt size own) (is : PutIfSome (bytes_in part) own mid) where
  cut_then : AreCut size mid
  cut_then = put_keeps_cut size (bytes_in part) own mid (filled_least size part.segment part.len is_part) (filled_fits size part.segment part.len is_part) was is

  unfinished_then : is_finished mid ≡ false
  unfinished_then = put_keeps_unfinished (bytes_in part) own mid was.unfinished is

  grew_then : GrewByData own mid
  grew_then = grew_one (bytes_in part) own mid is

  laid_then : put mid ≡ laid own part
  laid_then = put_laid (bytes_in part) own mid is

  pub stopped_at : (last : SendEntry) → own' ≡ mid → WasStoppedAt size last own own' (laid own part)
  stopped_at last same = record {
    some = record {
      owed = [];
      begins = append-nil (put own') ∙ ap put same ∙ laid_then;
      buffers = subst (AreCut size) (sym same) cut_then;
    };
    entries = inl (subst (GrewByData own) (sym same) grew_then);
  }

  pub ended_at : own' ≡ mid ++ Finish ∷ [] → WasEndedAt size own own' (laid own part)
  ended_at ends = record {
    all = record {
      whole = ap put ends ∙ put-append mid (Finish ∷ []) ∙ append-nil (put mid) ∙ laid_then;
      ended = ap is_finished ends ∙ finished-more mid (Finish ∷ []) unfinished_then;
      buffers = subst (AreCut size) (sym ends) (cut-append size None mid (Finish ∷ []) cut_then tt);
    };
    entries = grew_up_to Finish own mid own' grew_then ends;
  }

  pub marked_at : (k : ℕ) → own' ≡ mid ++ PutInline k ∷ [] → WasMarkedAt size k own own' (laid own part)
  marked_at k marks = record {
    whole = ap put marks ∙ put-append mid (PutInline k ∷ []) ∙ append-nil (put mid) ∙ laid_then;
    entries = grew_up_to (PutInline k) own mid own' grew_then marks;
    is_open = record {
      unfinished = ap is_finished marks ∙ finished-more mid (PutInline k ∷ []) unfinished_then;
      buffers = subst (AreCut size) (sym marks) (cut-append size None mid (PutInline k ∷ []) cut_then tt);
      full = subst (λ (x : Option ℕ). IfSome x (λ n. n ≡ size)) (sym (ap (last_put None) marks ∙ last-append None mid (PutInline k ∷ []))) tt;
    };
  }
