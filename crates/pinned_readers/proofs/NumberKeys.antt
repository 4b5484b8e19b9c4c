-- Readers and sequence numbers as keys.
use Rattle.std.proofs.Common.{◌≡◌, ℕ, refl}
use Rattle.std.specs.Prelude.{Option, Some, None}
use Rattle.std.specs.Option.{option_map}
use Rattle.std.specs.Ordering.{nat_cmp}
use Rattle.std.specs.Cmp.{nat_cmp_total, on_total}
use Rattle.road_base.specs.declared.ids.Sequence.{Sequence}
use Rattle.road_base.specs.contracts.ids.SequenceOrd.TheImpl.{ghosts as sequence_order}
use Rattle.pinned_readers.proofs.KeyedMaps.{NumberedKeys}

pub same_option : {X : Type 0} (o : Option X) → option_map (λ x. x) o ≡ o
same_option None = refl
same_option (Some x) = refl

pub reader_keys : NumberedKeys nat_cmp (λ (n : ℕ). n)
reader_keys = record {
  total = nat_cmp_total;
  by = λ a b. refl;
  key = λ n. n;
  back = λ n. refl;
}

pub sequence_keys : NumberedKeys sequence_order.cmp (λ (s : Sequence). s.0)
sequence_keys = record {
  total = on_total (λ (s : Sequence). s.0) nat_cmp_total;
  by = λ a b. refl;
  key = λ n. record { 0 = n };
  back = λ n. refl;
}
