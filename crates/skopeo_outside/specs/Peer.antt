-- What an honest registry answers (RFC 9112, sections 3, 4, 6 and 7; OCI Distribution Specification, "Pull"):
-- to a GET what it holds at the target, in its framing. It reads the first line of what was sent, and no more.
use Rattle.std.specs.Prelude.{ℕ, ◌==◌, List, [], ◌∷◌, ◌++◌, length, take, drop, codes, decimal, false, zero, suc, max, unwrap_or, if◌then◌else◌}
use Rattle.std.specs.Int.{div_ceil}
use Rattle.std.specs.List.{before_first, after_first}
use Rattle.std.specs.Option.{option_map_or}
use Rattle.std.specs.Fmt.{digits}
use Rattle.std.specs.Str.{is_utf8, bytes_eq}
use Rattle.skopeo_outside.specs.declared.map_peer.MapPeer.{MapPeer}
use Rattle.skopeo_outside.specs.declared.map_peer.PeerFraming.{PeerFraming}
use Rattle.skopeo_outside.specs.declared.map_peer.PeerFraming.TheVariants.{Length, Chunks, ToEnd}
use Rattle.skopeo_outside.specs.Tree.{file_at}

-- where a manifest is, by its tag or its digest
abbrev pub manifest_target : List ℕ → List ℕ → List ℕ
manifest_target name reference = codes "/v2/" ++ (name ++ (codes "/manifests/" ++ reference))

-- where a blob is, by its digest
abbrev pub blob_target : List ℕ → List ℕ → List ℕ
blob_target name digest = codes "/v2/" ++ (name ++ (codes "/blobs/" ++ digest))

-- a line end
abbrev pub line_end : List ℕ
line_end = 13 ∷ 10 ∷ []

-- the first line of what was sent
abbrev pub first_line : List ℕ → List ℕ
first_line sent = before_first (λ b. b == 13) sent

-- the method that a first line names
abbrev pub method_of : List ℕ → List ℕ
method_of line = before_first (λ b. b == 32) line

-- the target that a first line names
abbrev pub target_of : List ℕ → List ℕ
target_of line = before_first (λ b. b == 32) (after_first (λ b. b == 32) line)

-- one chunk: its size in hexadecimal digits and its bytes, each with a line end
abbrev pub chunk : List ℕ → List ℕ
chunk bytes = digits 16 false (length bytes) ++ (line_end ++ (bytes ++ line_end))

-- so many chunks of this size, the last one perhaps shorter
abbrev pub chunks : ℕ → ℕ → List ℕ → List ℕ
chunks zero size bytes = []
chunks (suc count) size bytes = chunk (take size bytes) ++ chunks count size (drop size bytes)

-- all chunks of a body, of this size or of one byte, and the last chunk
abbrev pub chunked : ℕ → List ℕ → List ℕ
chunked size body = chunks (div_ceil (length body) (max size 1)) (max size 1) body ++ (codes "0" ++ (line_end ++ line_end))

-- the line that tells how the body ends, the empty line, and the body so framed
abbrev pub framed : PeerFraming → List ℕ → List ℕ
framed Length body = codes "Content-Length: " ++ (decimal (length body) ++ (line_end ++ (line_end ++ body)))
framed (Chunks size) body = codes "Transfer-Encoding: chunked" ++ (line_end ++ (line_end ++ chunked size body))
framed ToEnd body = line_end ++ body

-- the answer that gives a body of this type
abbrev pub found : PeerFraming → List ℕ → List ℕ → List ℕ
found framing media body =
    codes "HTTP/1.1 200 OK" ++ (line_end ++ (codes "Content-Type: " ++ (media ++ (line_end ++ framed framing body))))

-- an answer of this status without a body
abbrev pub bare : List ℕ → List ℕ
bare status = codes "HTTP/1.1 " ++ (status ++ (line_end ++ (codes "Content-Length: 0" ++ (line_end ++ line_end))))

-- what a GET of the target gives
abbrev pub get_answer : MapPeer → List ℕ → List ℕ
get_answer peer target =
    option_map_or (λ body. found peer.framing (unwrap_or (file_at peer.types target) []) body) (file_at peer.bodies target)
    (bare (codes "404 Not Found"))

-- what a request with this first line gives
abbrev pub line_answer : MapPeer → List ℕ → List ℕ
line_answer peer line =
    if bytes_eq (method_of line) (codes "GET") then get_answer peer (target_of line) else bare (codes "405 Method Not Allowed")

-- what the registry answers to what was sent
abbrev pub peer_answer : MapPeer → List ℕ → List ℕ
peer_answer peer sent =
    if is_utf8 (first_line sent) then line_answer peer (first_line sent) else bare (codes "400 Bad Request")
