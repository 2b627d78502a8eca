-- Records of 12 bytes: kind, tablet, new, seen, then an 8-byte set in which bit i stands for value i.
use Rattle.std.specs.Prelude.{ℕ, zero, suc, ◌+◌, ◌/◌, ◌%◌, ◌^◌, Bool, cond, ◌&&◌, ◌||◌, List, [], ◌∷◌, leb, ltb, eqb, length, drop, Option, Some, None}
use Rattle.model.specs.declared.Observation.{Observation}
use Rattle.model.specs.declared.Observation.TheVariants.{Read, Write, Stabilize, Failed}
use Rattle.records.specs.Bytes.{byte, number}
use Rattle.records.specs.declared.Record.{Record}

-- The five numbers of the record at a place. Where fewer than 12 bytes are left there is none: all five are 0.
unfoldable pub record_at : List ℕ → ℕ → Record
record_at f at =
    cond (leb (at + 12) (length f))
    (record {
      set = number f (at + 4) 8;
      kind = byte f at;
      tablet = byte f (at + 1);
      new = byte f (at + 2);
      seen = byte f (at + 3);
    })
    (record { set = 0; kind = 0; tablet = 0; new = 0; seen = 0 })

-- ---- the table of records, for n tablets and v values

abbrev pub one_of : ℕ → ℕ → Bool
one_of n t = leb 1 t && leb t n

unfoldable pub read_row : ℕ → ℕ → Record → Bool
read_row n v r = eqb r.kind 1 && (one_of n r.tablet && (eqb r.new 0 && (ltb r.seen v && eqb r.set 0)))

unfoldable pub write_row : ℕ → ℕ → Record → Bool
write_row n v r = eqb r.kind 2 && (one_of n r.tablet && (ltb r.new v && (ltb r.seen v && eqb r.set 0)))

-- bit 0 and bits from v up are clear
unfoldable pub stabilize_row : ℕ → Record → Bool
stabilize_row v r =
    eqb r.kind 3 && (eqb r.tablet 0 && (eqb r.new 0 && (ltb r.seen v && (eqb (r.set % 2) 0 && ltb r.set (2 ^ v)))))

unfoldable pub failed_row : Record → Bool
failed_row r = eqb r.kind 4 && (eqb r.tablet 0 && (eqb r.new 0 && (eqb r.seen 0 && eqb r.set 0)))

-- a record keeps its row
unfoldable pub keeps_row : ℕ → ℕ → Record → Bool
unfolding read_row write_row stabilize_row failed_row
keeps_row n v r = read_row n v r || (write_row n v r || (stabilize_row v r || failed_row r))

-- One step of a listing: the next record and 12 bytes on, or with fewer than 12 bytes left no record, staying.
unfoldable pub next_record : List ℕ → ℕ → Option Record × ℕ
unfolding record_at
next_record body at = cond (leb (at + 12) (length body)) (Some (record_at body at), at + 12) (None, at)

-- What a record says. One that breaks its row whatever n and v are says what never may happen.
unfoldable pub observation_of : Record → Observation
observation_of r =
    cond (eqb r.kind 1 && (eqb r.new 0 && eqb r.set 0)) (Read r.tablet r.seen)
    (cond (eqb r.kind 2 && eqb r.set 0) (Write r.tablet r.new r.seen)
    (cond (eqb r.kind 3 && (eqb r.tablet 0 && eqb r.new 0)) (Stabilize r.seen r.set) Failed))

-- The observations of a body, one for each 12 bytes.
unfoldable pub observed : ℕ → List ℕ → List Observation
unfolding observation_of record_at
observed zero body = []
observed (suc k) body = observation_of (record_at body 0) ∷ observed k (drop 12 body)

unfoldable pub observations : List ℕ → List Observation
unfolding observed
observations body = observed (length body / 12) body
