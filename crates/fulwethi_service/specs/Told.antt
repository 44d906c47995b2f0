-- What the service tells of clients and inboxes.
use Rattle.std.specs.Prelude.{◌≡◌, Option, Some, None, MatchOption}
use Rattle.live_segment.specs.LiveView.{LiveView}
use Rattle.live_segment.specs.News.{IsNamed, NoNews}
use Rattle.live_segment.specs.declared.news.News.{News}
use Rattle.live_segment.specs.declared.news.News.TheVariants.{Client, Port}
use Rattle.fulwethi_service.specs.declared.news.CNews.{CNews}

-- a client, by its number, or a port, by its number at its station
abbrev pub shown_news : News → CNews
shown_news (Client number) = record { number = number; kind = 1; station = 0 }
shown_news (Port port) = record { number = port.number; kind = 2; station = port.station.0 }

-- one that has news was named; or none has
abbrev pub IsNewsTold : (before after : LiveView) → Option News → Type 0
IsNewsTold before after answer = MatchOption answer (NoNews before × (after ≡ before)) (λ n. IsNamed before after n)

-- who has news is written; else the place is unchanged
abbrev pub IsNewsWritten : (old new : CNews) → Option News → Type 0
IsNewsWritten old new None = new ≡ old
IsNewsWritten old new (Some n) = new ≡ shown_news n
