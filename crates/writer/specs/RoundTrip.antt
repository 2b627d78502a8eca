-- What a file is read as: the counts of its bodies, and the bodies themselves.
use Rattle.std.specs.Prelude.{ℕ, zero, suc, ◌+◌, ◌*◌, List, [], ◌∷◌, take, drop}
use Rattle.tracefile.specs.File.{bodies_in, count_in, asked, record_size}

-- the counts of the bodies from i on, of which left are left
unfoldable pub counts_from : List ℕ → ℕ → ℕ → List ℕ
counts_from f i zero = []
counts_from f i (suc left) = count_in f i ∷ counts_from f (i + 1) left

unfoldable pub counts_in : List ℕ → List ℕ
unfolding counts_from
counts_in f = counts_from f 0 (bodies_in f)

-- the bodies from i on, of which left are left: those of the traces from i + 1 on
unfoldable pub bodies_from : List ℕ → ℕ → ℕ → List (List ℕ)
bodies_from f i zero = []
bodies_from f i (suc left) = asked f (i + 1) ∷ bodies_from f (i + 1) left

unfoldable pub read_bodies : List ℕ → List (List ℕ)
unfolding bodies_from
read_bodies f = bodies_from f 0 (bodies_in f)

-- records back to back, parted into bodies of these counts
unfoldable pub parted : List ℕ → List ℕ → List (List ℕ)
parted [] records = []
parted (count ∷ counts) records = take (record_size * count) records ∷ parted counts (drop (record_size * count) records)
