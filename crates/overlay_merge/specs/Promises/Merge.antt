-- Promise. A sheet's vehicles merged with a feed's: both ascend by key, and the merge goes on entry by entry.
use Rattle.std.specs.Prelude.{◌≡◌, Bool, true, false, cond, not, List, ◌∷◌, ◌++◌, ℕ, ◌+◌, ◌≤◌, ◌<◌, ℤ, pos, ◌-ℤ◌, eqb, length}
use Rattle.std.specs.Int.Signed.{lt_z}
use Rattle.std.proofs.Math.Seq.{slice}
use Rattle.slices.specs.Lists.{lex_of}
use Rattle.std.specs.declared.cmp.Ordering.{Ordering}
use Rattle.std.specs.declared.cmp.Ordering.TheVariants.{Less, Greater}
use Rattle.maps.specs.Map.{puts, ascending}
use Rattle.maps.specs.Order.{texts}
use Rattle.formats.specs.Number.{zag}
use Rattle.formats_read.specs.Promises.Here.{Here}
use Rattle.formats_read.specs.Promises.Lists.{Many}
use Rattle.overlay.specs.State.{Vehicle, Vehicles, vehicle_entry, updated_of}
use Rattle.overlay.specs.Change.{without_stale}
use Rattle.overlay_merge.specs.declared.Turn.{Turn}
use Rattle.overlay_merge.specs.Promises.Entry.{ReadsEntry}

-- which of the two keys comes first, where n and m entries are left: a list that is at its end comes last
abbrev pub first_of : ℕ → ℕ → List ℕ → List ℕ → Ordering
first_of n m a b = cond (eqb n 0) Greater (cond (eqb m 0) Less (lex_of a b))

-- an entry whose time has the code u is not told before the limit
pub record Fresh (u limit : ℕ) (keep : Bool) : Type 0 where
  pub is : keep ≡ not (lt_z (zag u) (zag limit))

-- what is read at the two places: the entries there, and which comes first
pub record Firsts (sheet : List ℕ) (p n : ℕ) (old : List ℕ) (q m xa xe xu xr ya ye yu yr : ℕ) (o : Ordering) :
    Type 0 where
  pub sheet_reads : ReadsEntry sheet p xa xe xu xr
  pub old_reads : ReadsEntry old q ya ye yu yr
  pub first : o ≡ first_of n m (slice xa xe sheet) (slice ya ye old)

-- n entries of a sheet stand from p on, and m of a feed from q on
pub record Both (sheet : List ℕ) (p n : ℕ) (old : List ℕ) (q m : ℕ) (xs ys : Vehicles) : Type 0 where
  pub sheet_end : ℕ
  pub sheet_stand : Many vehicle_entry sheet p sheet_end xs
  pub sheet_count : length xs ≡ n
  pub sheet_ascends : ascending texts xs ≡ true
  pub old_end : ℕ
  pub old_stand : Many vehicle_entry old q old_end ys
  pub old_count : length ys ≡ m
  pub old_ascends : ascending texts ys ≡ true

-- the entry that a turn takes stands in the one or in the other
abbrev pub In : Bool → List ℕ → List ℕ → ℕ → ℕ → List ℕ × Vehicle → Type 0
In true sheet old a e v = Here vehicle_entry sheet a e v
In false sheet old a e v = Here vehicle_entry old a e v

-- a turn takes the first entry of the merge, and leaves what is still to be merged
pub record Taken (sheet old : List ℕ) (limit : ℕ) (t : Turn) (xs ys : Vehicles) : Type 0 where
  pub entry : List ℕ × Vehicle
  pub xs' : Vehicles
  pub ys' : Vehicles
  pub both : Both sheet t.p t.n old t.q t.m xs' ys'
  pub is : puts texts xs ys ≡ entry ∷ puts texts xs' ys'
  pub stands : In t.sheet sheet old t.from t.to entry
  pub keeps : t.keep ≡ not (lt_z (updated_of entry.1) (zag limit))

pub record Turned (sheet : List ℕ) (p n : ℕ) (old : List ℕ) (q m limit : ℕ) (t : Turn) : Type 0 where
  pub falls : t.n + t.m < n + m
  pub takes : {xs ys : Vehicles} → Both sheet p n old q m xs ys → Taken sheet old limit t xs ys

-- a merge that has kept the entries `behind`, of which `done` holds
pub record Ahead (sheet : List ℕ) (p n : ℕ) (old : List ℕ) (q m : ℕ) (clock : ℤ) (all : Vehicles)
    (done : Vehicles → Type 0) : Type 0 where
  pub behind : Vehicles
  pub xs : Vehicles
  pub ys : Vehicles
  pub both : Both sheet p n old q m xs ys
  pub joined : behind ++ without_stale clock (puts texts xs ys) ≡ all
  pub so : done behind

-- begun at a and b with i and j entries, it is at p and q with n and m. `limit` is the code of the clock less 900
pub record Merge (sheet : List ℕ) (a i : ℕ) (old : List ℕ) (b j limit p n q m : ℕ) (done : Vehicles → Type 0) :
    Type 0 where
  pub at : (xs ys : Vehicles) (clock : ℤ) → zag limit ≡ clock -ℤ pos 900 → Both sheet a i old b j xs ys
      → Ahead sheet p n old q m clock (without_stale clock (puts texts xs ys)) done

-- a count up to 1,024, or that there are more
pub record Counted (r n : ℕ) : Type 0 where
  pub few : r ≤ 1024 → n ≡ r
  pub many : 1024 < r → 1024 < n

-- the count of what the merge leaves
pub record Counts (sheet : List ℕ) (a n : ℕ) (old : List ℕ) (b m limit r : ℕ) : Type 0 where
  pub of : (xs ys : Vehicles) (clock : ℤ) → zag limit ≡ clock -ℤ pos 900 → Both sheet a n old b m xs ys
      → Counted r (length (without_stale clock (puts texts xs ys)))
