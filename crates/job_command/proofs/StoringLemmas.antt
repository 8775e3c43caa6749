-- What is stored of one of two jobs that do the same is stored of the other.
use Rattle.std.proofs.Common.{◌++◌, ◌∷◌, ◌≡◌, ℕ, List, [], Option, Some, None, refl, sym, ap, subst}
use Rattle.std.proofs.lemmas.List.{append-nil}
use Rattle.flow_defs.specs.declared.job.Job.{Job}
use Rattle.flow_defs.specs.declared.image.Image.{Image}
use Rattle.flow_defs.specs.Tables.{Values, join}
use Rattle.outside.specs.Keepers.{KeptImage}
use Rattle.job_outcome.specs.Storing.{EndsIn, HasKept, HasStored, IsTooLarge}
use Rattle.job_command.proofs.SameJobs.{Work, work_of, start_too, chain_too, still_too}

-- a keeper that is as it was got no image
pub none_kept : (held : Option (List KeptImage)) → HasKept held held []
none_kept None = refl
none_kept (Some images) = ap Some (sym (append-nil images))

pub kept_still : (held after : Option (List KeptImage)) → after ≡ held → (images : List Image) × HasKept held after images
kept_still held after same = ([], subst (λ (o : Option (List KeptImage)). HasKept held o []) (sym same) (none_kept held))

-- and the images of a run in which none was stored are a chain
pub none_stored : (job : Job) (lines : ℕ → List (List ℕ)) (every : Option ℕ) (held after : Option (List KeptImage)) → after ≡ held → HasStored job lines every held after
none_stored job lines every held after same = record {
  images = [];
  kept = subst (λ (o : Option (List KeptImage)). HasKept held o []) (sym same) (none_kept held);
  chain = λ base start. tt;
  still = tt;
  spelled = tt;
  readable = tt;
}

module _ (job other : Job) (same : work_of job ≡ work_of other) where
  pub stored_too : (lines : ℕ → List (List ℕ)) (every : Option ℕ) (before after : Option (List KeptImage)) → HasStored job lines every before after → HasStored other lines every before after
  stored_too lines every before after s = record {
    images = s.images;
    kept = s.kept;
    chain = λ base start. chain_too job other same lines every base s.images (s.chain base (start_too other job (sym same) base start));
    still = still_too job other same s.images s.still;
    spelled = s.spelled;
    readable = s.readable;
  }

  pub ends_too : (lines : ℕ → List (List ℕ)) (every : Option ℕ) (before after : Option (List KeptImage)) (table : Values) → EndsIn job lines every before after table → EndsIn other lines every before after table
  unfolding stored_too
  ends_too lines every before after table e = record {
    stored = stored_too lines every before after e.stored;
    last = e.last;
    last_is = λ base start. e.last_is base (start_too other job (sym same) base start);
    final = e.final;
    table_is = subst (λ (w : Work). table ≡ join w.agg e.last.tables.items) same e.table_is;
  }

  pub large_too : (lines : ℕ → List (List ℕ)) (every : Option ℕ) (before after : Option (List KeptImage)) → IsTooLarge job lines every before after → IsTooLarge other lines every before after
  large_too lines every before after l = record {
    images = l.images;
    kept = l.kept;
    image = l.image;
    chain = λ base start. chain_too job other same lines every base (l.images ++ l.image ∷ []) (l.chain base (start_too other job (sym same) base start));
    large = l.large;
  }
